-- Shapes of expressions, the grammar of their texts, and the shapes of terms.
pub mod Words
pub mod Shape
pub mod Grammar
pub mod ShapeOf
pub mod Readable
pub mod Reader
