-- Lemmas of division.
pub mod Quotients
