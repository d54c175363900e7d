pub mod Causes
pub mod Gathered
pub mod Held
pub mod Plans
pub mod Taken
pub mod Views
