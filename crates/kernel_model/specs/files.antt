-- The file tree, its inode numbers, and the trees that are given back.
pub mod FileTree
pub mod Numbers
pub mod Settled
