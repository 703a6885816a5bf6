-- What contracts of this crate say, by subject.
pub mod Kinds
pub mod Places
pub mod Stats
pub mod Dirents
pub mod IoVecs
