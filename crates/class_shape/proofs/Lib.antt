pub mod Loops
pub mod SeenCodec
pub mod FileLaws
mod MeaningLaws
mod ShapeLaws
mod CauseLaws
mod LayoutLaws
pub mod PlaceLaws
