-- The pieces in which the printer writes a text.
pub mod Pieces
