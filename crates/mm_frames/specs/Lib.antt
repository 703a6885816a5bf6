-- What contracts of this crate say, by subject.
pub mod Numbers
pub mod Rows
pub mod Bytes
pub mod Frames
