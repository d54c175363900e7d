mod Edits
mod Rests
mod LineStarts
mod Laws
mod Ends
mod Begins
mod Moves
