pub mod FilesMore
mod Gathering
