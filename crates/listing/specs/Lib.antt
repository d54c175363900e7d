-- The definitions of a listing.
pub mod Found
pub mod Pages
