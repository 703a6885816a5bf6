pub mod Arrays
pub mod Faults
pub mod Forms
pub mod Hex
pub mod Names
pub mod Views
