pub mod Names
pub mod Descriptors
pub mod Reading
