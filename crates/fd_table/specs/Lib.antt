-- What contracts of this crate say, by subject.
pub mod Flags
pub mod Descriptions
pub mod Tables
pub mod Slots
