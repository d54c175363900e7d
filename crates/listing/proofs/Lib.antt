-- Lemmas of a listing.
pub mod Ranges
pub mod Orders
pub mod Coded
pub mod Keeping
pub mod Paging
