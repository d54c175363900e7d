pub mod Batching
pub mod Loads
pub mod Reading
pub mod StartLaws
