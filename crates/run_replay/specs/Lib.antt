-- What contracts of runs that are done again say, by subject.
pub mod Lines
pub mod Replays
