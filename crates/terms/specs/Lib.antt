-- The definitions of the calculus.
pub mod Expr
pub mod View
pub mod Typing
pub mod Weights
pub mod Count
pub mod Code
pub mod Place
pub mod Reading
pub mod Text
pub mod Order
pub mod Listing
pub mod Faults
pub mod Table
pub mod Closed
pub mod Rating
pub mod Apart
