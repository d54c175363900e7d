pub mod Runs
pub mod Tiles
mod Closed
pub mod Total
pub mod WordLaws
