pub mod Weights
pub mod Standings
pub mod Opening
pub mod Endings
