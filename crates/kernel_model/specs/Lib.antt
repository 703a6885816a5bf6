-- The definitions of the one-thread kernel, by subject.
pub mod Names
pub mod machine
pub mod calls
pub mod descriptors
pub mod entries
pub mod files
pub mod opening
pub mod printed
pub mod laws
pub mod Words
