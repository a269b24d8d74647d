pub mod Judging
mod Numbers
mod Reading
