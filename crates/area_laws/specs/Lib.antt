-- What the laws of areas say, by subject.
pub mod Whole
