-- Lemmas of live tasks and of what keeps them at home, by subject.
pub mod Ends
pub mod Found
pub mod Homes
pub mod NewHomes
