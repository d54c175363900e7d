pub mod Lines
pub mod Faults
pub mod Starts
pub mod Taken
