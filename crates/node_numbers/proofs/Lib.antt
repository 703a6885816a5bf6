-- Lemmas of fresh numbers, given and taken back, and of faults.
pub mod FaultLemmas
pub mod NodeLemmas
pub mod NodesSoFar
pub mod Numberings
pub mod NumberRuns
pub mod OptionLemmas
