-- Lemmas of the plain kernel, by subject.
pub mod BeginLemmas
pub mod CountLemmas
pub mod StepLemmas
pub mod WalkLemmas
