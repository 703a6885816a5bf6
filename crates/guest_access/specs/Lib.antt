-- What contracts of this crate say, by subject.
pub mod Lending
pub mod Memories
pub mod Scattering
pub mod Sending
pub mod Stepping
pub mod Trying
