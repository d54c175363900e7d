-- What a run over a sheet reads and writes.
pub mod Runs
