-- What contracts of this crate say, by subject.
pub mod Records
pub mod Trees
pub mod Openings
pub mod Told
pub mod Begun
