-- What contracts of this crate say, by subject.
pub mod Spelled
pub mod Operations
pub mod Replies
