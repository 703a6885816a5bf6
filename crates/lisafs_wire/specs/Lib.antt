-- What contracts of this crate say, by subject.
pub mod Fields
pub mod Grammar
pub mod Reading
pub mod Spelling
pub mod Messages
pub mod Fronts
pub mod Pieces
