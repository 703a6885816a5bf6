-- Entries: the parts that they read and change, what they do, and histories of them.
pub mod Parts
pub mod InTurn
pub mod Areas
pub mod Waiting
pub mod Given
pub mod Steps
pub mod Ready
pub mod History
