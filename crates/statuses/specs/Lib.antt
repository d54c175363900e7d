-- How a status is told.
pub mod Texts
