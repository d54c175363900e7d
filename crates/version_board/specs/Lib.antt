pub mod Withdrawals
pub mod Versions
pub mod Laws
pub mod Logs
pub mod Views
pub mod Publications
pub mod Accepted
