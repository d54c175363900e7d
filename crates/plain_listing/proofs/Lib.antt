mod Counting
pub mod Numbers
pub mod Making
pub mod Joined
pub mod Ranges
pub mod Finding
pub mod Growing
