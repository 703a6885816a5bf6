-- Lemmas of reservations and their granules, by subject.
pub mod Granules
pub mod Singles
pub mod SinglesHere
