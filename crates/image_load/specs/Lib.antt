-- What contracts of this crate say, by subject.
pub mod PageRights
pub mod Stacks
pub mod Pages
pub mod Loading
