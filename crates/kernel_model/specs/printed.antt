-- What a run prints.
pub mod Printed
