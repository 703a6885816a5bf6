-- What contracts of this crate say, by subject.
pub mod Acting
pub mod Ends
pub mod Instructions
pub mod Turns
pub mod laws
