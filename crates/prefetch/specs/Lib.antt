-- The definitions of tasks that are handed over a queue.
pub mod Tasks
pub mod Rule
pub mod Starts
pub mod Settling
