mod Holes
mod OneText
mod Pages
mod Texts
mod Told
