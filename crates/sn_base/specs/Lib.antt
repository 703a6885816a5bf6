-- What contracts of this crate say, by subject.
pub mod Faults
pub mod MapKeys
pub mod Prefix
pub mod Sums
pub mod laws
