-- Lemmas of what is measured.
pub mod Lists
