-- What contracts of this crate say, by subject.
pub mod Courses
pub mod Execution
pub mod Flows
pub mod Loads
pub mod Rows
pub mod Writes
