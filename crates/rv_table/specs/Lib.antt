-- What contracts of this crate say, by subject.
pub mod Areas
pub mod Bytes
pub mod Fields
pub mod Table
pub mod Registers
pub mod Words
