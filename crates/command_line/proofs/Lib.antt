pub mod Parts
pub mod Commands
mod Counts
mod Samples
mod Numerals
pub mod Asked
