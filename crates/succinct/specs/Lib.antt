pub mod Rows
pub mod Sets
pub mod Numbering
pub mod Compression
