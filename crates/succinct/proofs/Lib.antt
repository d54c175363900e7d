pub mod Numberings
pub mod Rising
pub mod Needs
pub mod Cuts
pub mod Wants
