-- Lemmas of the bounds.
pub mod Lists
pub mod Sourced
pub mod Steps
pub mod Listed
pub mod Waking
pub mod Lows
pub mod Reached
pub mod Relaxing
pub mod Bounded
mod StepWeights
pub mod Members
