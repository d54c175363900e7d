pub mod Chaining
pub mod Keys
pub mod Division
pub mod Pops
pub mod Levels
pub mod Popping
pub mod Starts
pub mod Folds
