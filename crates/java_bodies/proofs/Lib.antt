pub mod Lengths
pub mod Walks
pub mod Loops
pub mod LastOnes
pub mod SiteLaws
