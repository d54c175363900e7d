-- Words, lines, sheets, the text of one, and what a reader keeps.
pub mod Words
pub mod SheetLines
pub mod Sheets
pub mod Causes
pub mod Standing
pub mod Writing
