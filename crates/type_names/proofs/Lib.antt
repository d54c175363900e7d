pub mod NameLaws
pub mod FieldLaws
pub mod ParamLaws
pub mod TextLaws
pub mod MethodLaws
mod OrderLaws
