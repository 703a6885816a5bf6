pub mod NameFaults
pub mod PathParts
