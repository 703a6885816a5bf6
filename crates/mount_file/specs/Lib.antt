-- What contracts of this crate say, by subject.
pub mod Keys
pub mod Values
pub mod Tables
pub mod Rules
pub mod MountFile
pub mod Read
pub mod Form
