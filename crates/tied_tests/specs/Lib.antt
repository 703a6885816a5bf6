-- The definitions of the crate, by topic.
pub mod Tallies
pub mod Tries
