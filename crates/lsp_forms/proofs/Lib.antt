pub mod Answers
pub mod Arrays
pub mod Cuts
pub mod Lists
pub mod Published
pub mod Refusals
pub mod Texts
pub mod Weighing
