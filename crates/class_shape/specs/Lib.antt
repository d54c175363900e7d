pub mod Parts
pub mod Shapes
pub mod Reading
pub mod Meaning
pub mod Violations
pub mod Layout
pub mod Places
pub mod Views
