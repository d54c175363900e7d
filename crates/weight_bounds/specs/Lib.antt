-- Relaxed terms, their least weights, and the numbers by which these are found.
pub mod Relaxed
pub mod Bounds
pub mod Rules
pub mod Numbers
pub mod Users
