-- What contracts of this crate say, by subject.
pub mod Making
pub mod ClearWords
pub mod Clones
pub mod Ends
pub mod Families
pub mod Prepared
