-- Lemmas of this crate, by subject.
pub mod Recording
pub mod Roots
pub mod Telling
pub mod Beginning
pub mod InOrder
