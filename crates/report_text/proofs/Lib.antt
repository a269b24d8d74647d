mod OneReading
mod SaysText
mod CertText
mod OneOf
mod Lists
mod TopOfCert
mod Head
mod ReadsReport
mod KeepingParts
mod Keeping
pub mod ForCallers
