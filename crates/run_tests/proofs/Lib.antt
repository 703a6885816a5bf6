-- Lemmas of these tests.
mod Back
