-- Where the rows of a term can be told, and what floors rest on.
pub mod Readable
pub mod Told
pub mod Floors
pub mod Results
pub mod Tables
