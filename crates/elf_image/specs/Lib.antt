-- What contracts of this crate say, by subject.
pub mod Headers
pub mod Faults
pub mod Loadable
pub mod Images
