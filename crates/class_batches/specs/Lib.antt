pub mod Batches
pub mod Classes
pub mod Faults
