pub mod Known
pub mod Nested
pub mod Merging
pub mod Outwards
pub mod Laws
pub mod Least
pub mod Alike
pub mod NameTables
