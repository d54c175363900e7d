pub mod Classes
pub mod Rules
pub mod Tokens
pub mod Words
