-- Lemmas of descriptors that are counted, closed and given, by subject.
pub mod FileCounts
pub mod LowestNumbers
pub mod Unchanged
