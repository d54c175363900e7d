-- Partial terms, the search that grows them, and what it pops.
pub mod NumberedPlaces
pub mod Tabled
pub mod Totals
pub mod Ways
pub mod Usable
pub mod Variables
pub mod Levelled
pub mod Rebuilding
pub mod Partial
pub mod Tallied
pub mod Pending
pub mod Running
