-- What contracts of this crate say, by subject.
pub mod Parked
pub mod Parking
pub mod Touched
pub mod Untouched
pub mod Used
pub mod Users
