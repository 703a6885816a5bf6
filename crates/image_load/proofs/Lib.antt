-- Lemmas of opening address spaces, by subject.
pub mod Found
pub mod StackReads
pub mod Stacks
pub mod Runs
pub mod PageBytes
pub mod PageCounts
pub mod Firsts
pub mod Opened
pub mod Made
