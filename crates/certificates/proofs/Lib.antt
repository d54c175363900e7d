-- The rows of parts, and floors.
pub mod Parting
pub mod Places
pub mod Numbers
pub mod Lookups
pub mod Sets
pub mod Filling
pub mod Seeking
pub mod Holding
pub mod FirstTotals
pub mod Steps
pub mod Marking
pub mod Listed
