-- What contracts of this crate say, by subject.
pub mod Whole
