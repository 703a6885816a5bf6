-- What contracts of this crate say, by subject.
pub mod Command
pub mod Untold
pub mod Uncounted
pub mod Played
pub mod Stopped
pub mod Granted
pub mod ErrorLine
pub mod Causes
pub mod LeftTasks
pub mod Outcome
pub mod Sides
pub mod Concluded
pub mod Ran
