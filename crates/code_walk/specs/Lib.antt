pub mod Code
pub mod CodeReading
pub mod Faults
pub mod Lengths
pub mod Opcodes
pub mod Walk
