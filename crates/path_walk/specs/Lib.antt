-- What contracts of this crate say.
pub mod Faults
pub mod Moves
pub mod Parts
pub mod Questions
pub mod Resolve
