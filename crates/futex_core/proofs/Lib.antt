pub mod Counts
pub mod Once
pub mod OnList
pub mod Picks
