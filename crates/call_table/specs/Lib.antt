-- What contracts of this crate say, by subject.
pub mod Entries
pub mod Moves
pub mod Moving
pub mod Parks
pub mod Processes
pub mod Schedules
pub mod Turns
