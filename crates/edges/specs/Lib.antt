-- Edges by state, and how their table is made.
pub mod Edges
pub mod Made
