pub mod Texts
pub mod Holes
