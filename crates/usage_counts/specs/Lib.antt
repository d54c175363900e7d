pub mod Additions
pub mod Counts
pub mod Files
pub mod Tallies
pub mod Uses
