-- What contracts of this crate say, by subject.
pub mod Faults
pub mod Levels
pub mod Order
pub mod Routes
pub mod Told
pub mod Tree
pub mod laws
