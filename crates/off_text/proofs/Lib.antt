mod Tokens
mod Steps
mod Decimals
mod Coordinates
mod Loops
mod Whole
mod WithinLimits
mod Numerals
mod Rounded
mod WrittenWords
mod WrittenNumbers
pub mod ReadBack
mod Writing
