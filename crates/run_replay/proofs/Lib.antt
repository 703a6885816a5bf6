-- Lemmas of runs that are done again, by subject.
pub mod Histories
pub mod Sayings
