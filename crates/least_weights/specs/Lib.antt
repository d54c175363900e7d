-- Least weights of terms, and the numbers by which they are found.
pub mod LeastWeight
pub mod Numbers
pub mod Users
