-- Partial terms, the search that grows them and what it pops; lists that share their ends.
pub mod Leasts
pub mod Fronts
pub mod Search
pub mod Popped
pub mod Built
pub mod Chained
