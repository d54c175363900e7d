-- Lemmas on certificates.
pub mod RowParts
pub mod RowsRead
pub mod Steps
pub mod RowItems
pub mod TypeSets
pub mod Bounds
pub mod Walks
pub mod Lookups
pub mod Meets
pub mod Aparts
pub mod Tables
