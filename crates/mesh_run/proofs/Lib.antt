mod Behind
mod Working
mod Answering
