pub mod TextUnits
pub mod SourceClasses
pub mod KnownNames
pub mod Laws
pub mod Order
