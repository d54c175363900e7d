pub mod Derivable
pub mod States
pub mod Met
pub mod Worklist
pub mod Patterned
