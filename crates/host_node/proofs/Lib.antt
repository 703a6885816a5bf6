pub mod Apart
mod EntryLemmas
mod Listings
mod OrderLemmas
mod Places
pub mod RouteLemmas
pub mod ToldLemmas
pub mod TreeLemmas
mod Weights
