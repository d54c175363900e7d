pub mod Clients
pub mod Publications
