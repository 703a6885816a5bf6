-- What contracts of this crate say, by subject.
pub mod Keys
pub mod Waiters
pub mod Least
