-- What contracts of this crate say, by subject.
pub mod Pages
pub mod Regions
pub mod Order
pub mod Mappings
pub mod Places
pub mod Rights
pub mod Protected
pub mod Own
pub mod Contents
pub mod DecodedWords
pub mod Shares
pub mod Hints
