-- What contracts of folders of the machine say, by subject.
pub mod Paths
pub mod Kinds
pub mod Failures
pub mod Access
pub mod Offsets
pub mod Entries
