pub mod Ancestries
pub mod Seen
pub mod Computed
