-- Open file descriptions and the descriptors that have them.
pub mod OpenFiles
pub mod Counts
