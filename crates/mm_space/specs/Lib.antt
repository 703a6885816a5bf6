-- What contracts of this crate say, by subject.
pub mod Accesses
pub mod AreaBytes
pub mod Changes
pub mod Conditionals
pub mod Handed
pub mod PageSights
pub mod Places
pub mod Puts
pub mod Reserves
pub mod Runs
pub mod Sight
pub mod Spaces
