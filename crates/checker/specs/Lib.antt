-- Certificates: the rows of a term, and floors.
pub mod Rows
pub mod Frames
pub mod OpenParts
pub mod Floors
pub mod States
pub mod Places
pub mod Checks
pub mod Heads
