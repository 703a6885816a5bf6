-- What contracts of this crate say, by subject.
pub mod Asked
pub mod CallEnd
pub mod Lookups
pub mod Pipes
pub mod Prepared
pub mod Records
pub mod Transfers
