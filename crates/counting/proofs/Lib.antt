mod FileUses
mod Texts
mod Written
mod Endings
