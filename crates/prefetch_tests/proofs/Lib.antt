-- Lemmas of the tests.
pub mod Meetings
