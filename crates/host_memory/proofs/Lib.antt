-- Lemmas of a host in memory, by subject.
pub mod PlaceLemmas
pub mod PlanLaws
pub mod Worlds
