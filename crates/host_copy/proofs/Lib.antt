-- Lemmas of copies of folders, by subject.
pub mod Copies
