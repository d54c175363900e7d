pub mod Steps
pub mod Places
pub mod Asked
pub mod Widening
pub mod Alike
