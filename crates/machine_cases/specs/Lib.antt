-- What contracts of the tests' own memory say, by subject.
pub mod Decoded
pub mod MemoryAfter
pub mod Pages
pub mod Places
