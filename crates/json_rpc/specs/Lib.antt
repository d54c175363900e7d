pub mod Prefixes
pub mod Heads
pub mod Messages
pub mod Replies
pub mod Spelled
pub mod Streams
pub mod Whole
