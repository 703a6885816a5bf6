-- What contracts of this crate say.
pub mod Mounts
