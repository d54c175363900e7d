pub mod Paths
pub mod Graph
pub mod Marking
pub mod Numbers
pub mod Joined
