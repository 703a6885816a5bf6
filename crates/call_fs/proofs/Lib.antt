-- Lemmas of the calls on descriptors, by subject.
pub mod Answering
pub mod Calling
pub mod Changes
pub mod Cuts
pub mod FoundBuffers
pub mod Gathered
pub mod Lowest
pub mod MadePipes
pub mod Opened
pub mod PipeWaits
pub mod Reading
pub mod Transferring
pub mod Writing
