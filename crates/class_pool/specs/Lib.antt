pub mod Spelling
pub mod Causes
pub mod Reading
pub mod Index
pub mod Faults
pub mod Units
pub mod Views
pub mod Members
