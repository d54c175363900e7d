pub mod Modified
pub mod Needs
pub mod Views
pub mod Layout
pub mod Writing
pub mod Flags
pub mod Spelled
pub mod Samples
