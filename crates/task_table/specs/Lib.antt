-- What contracts of this crate say, by subject.
pub mod Clones
pub mod Ends
pub mod Entries
pub mod Kept
pub mod Exits
pub mod Reaps
pub mod Status
pub mod Table
