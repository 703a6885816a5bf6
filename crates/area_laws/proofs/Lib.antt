-- Lemmas of areas that are tried, by subject.
pub mod Hands
pub mod Asking
pub mod Bytes
pub mod Missing
pub mod Buffers
pub mod Executing
pub mod Instructions
