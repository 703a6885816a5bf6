-- What is a step of a proof and no definition: codes by which proofs tell values apart, what a map ends as where a
-- `&mut` into it is handed out, and steps and openings told without their changes, as the contracts of code that does
-- them in place have them.
pub mod SpaceCodes
pub mod AreaCodes
pub mod NameLends
pub mod Formers
pub mod InPlace
pub mod Room
pub mod Children
pub mod Files
pub mod Writes
