-- What contracts of this crate say.
pub mod Ahead
pub mod Doing
pub mod Drafts
