pub mod Certificates
pub mod Commands
pub mod Forms
pub mod Keys
pub mod Params
pub mod Paths
pub mod Results
pub mod Weighing
