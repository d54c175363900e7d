pub mod Indices
pub mod Widenings
pub mod OfArrays
pub mod Laws
pub mod Nodes
pub mod Searching
pub mod Answering
pub mod SuperLaws
