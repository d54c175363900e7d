pub mod Faults
pub mod Counted
pub mod Lines
pub mod Runs
