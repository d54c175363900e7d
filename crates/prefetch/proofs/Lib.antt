-- Lemmas of tasks that are handed over a queue.
pub mod Once
pub mod Numbers
pub mod Gathering
pub mod Starting
pub mod Reaching
