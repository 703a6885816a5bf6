-- A host's tree as proofs have it: its code, its size, and that what stands below a directory is smaller.
pub mod TreeCode
pub mod TreeFalls
pub mod TreeSize
