-- What contracts of this crate say, by subject.
pub mod Names
pub mod Paths
pub mod Folders
