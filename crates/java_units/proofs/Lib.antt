pub mod Walks
pub mod Lists
pub mod Headers
pub mod Bodies
pub mod BlockLaws
pub mod UnitLaws
pub mod Dimensions
pub mod ClassTypes
pub mod Bounds
pub mod FewDims
pub mod UnitThere
pub mod WordTables
pub mod Counts
pub mod PieceLaws
mod PlainForms
mod PlainPieces
mod TextSigns
mod OnlySigns
mod BracketLaws
mod Groups
mod TypeGrammar
mod ListGrammar
mod SignKinds
mod Annotations
mod ParamGrammar
mod VarGrammar
mod ParamLists
mod TypeReading
mod ParamReading
mod ListReading
pub mod IdentifierLaws
