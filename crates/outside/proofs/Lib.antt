mod Pieces
mod Takes
