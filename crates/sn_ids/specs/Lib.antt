-- The definitions of the crate, by topic.
pub mod Names
pub mod Drawn
