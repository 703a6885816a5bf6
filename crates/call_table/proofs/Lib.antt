-- Lemmas of processes and their entries, by subject.
pub mod Histories
pub mod Homes
pub mod Kept
pub mod MovedFiles
pub mod Moves
pub mod MovedParts
pub mod NextTurns
pub mod OffList
pub mod Openings
pub mod ParkingSteps
pub mod Parkings
pub mod Parks
pub mod Results
pub mod Settling
pub mod Steps
