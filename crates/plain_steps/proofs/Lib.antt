-- Lemmas of entries that are done in place, by subject.
pub mod AheadLemmas
pub mod CallLemmas
pub mod PipeLemmas
pub mod RowLemmas
pub mod RunLemmas
pub mod SpaceLemmas
pub mod WaitLemmas
