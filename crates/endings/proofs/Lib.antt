pub mod Readings
pub mod Exits
pub mod Stops
pub mod Phases
pub mod Decisions
