-- What contracts of this crate say, by subject.
pub mod AreaReservations
pub mod Operations
pub mod Reservations
