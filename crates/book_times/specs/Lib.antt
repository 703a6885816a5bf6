-- The definitions of the crate, by topic.
pub mod Marks
