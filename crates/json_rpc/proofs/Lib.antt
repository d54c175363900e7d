pub mod Backs
mod Bodies
mod Heading
pub mod Inputs
mod Lasting
pub mod Lengths
pub mod Lines
pub mod Parsed
pub mod Parts
mod Pieces
mod Scans
pub mod Stops
pub mod Tails
mod Takes
pub mod Unfinished
pub mod Wholes
