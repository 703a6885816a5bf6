-- Lemmas of accesses, and of shared areas in hand.
pub mod AccessLaws
pub mod KernelAreas
pub mod Lendings
pub mod Runs
pub mod Scattered
pub mod Sendings
pub mod SteppedLaws
pub mod Tries
