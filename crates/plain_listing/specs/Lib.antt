-- What the tables of the generator hold.
pub mod Generate
pub mod Tables
pub mod Reads
pub mod Contexts
