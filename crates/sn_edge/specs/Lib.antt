-- What contracts of this crate say, by subject.
pub mod Errors
pub mod Taken
pub mod Shelf
pub mod Plan
pub mod InMemory
pub mod FilePlace
pub mod Reading
