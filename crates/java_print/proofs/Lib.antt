-- Lemmas of the printer.
pub mod Equations
pub mod Lists
