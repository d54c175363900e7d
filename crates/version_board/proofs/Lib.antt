pub mod Journals
pub mod WithdrawalLaws
pub mod VersionLaws
pub mod Prefixes
pub mod Adding
pub mod Keeps
pub mod Accepting
