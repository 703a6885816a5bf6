-- What contracts of this crate say, by subject.
pub mod Granted
pub mod Loading
pub mod Standing
pub mod Executing
pub mod Walking
