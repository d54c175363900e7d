-- What a run reads, writes and answers.
pub mod Runs
pub mod Usages
pub mod Services
pub mod Counts
pub mod Samplings
pub mod Seats
pub mod Crossing
