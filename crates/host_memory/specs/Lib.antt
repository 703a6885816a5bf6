-- What contracts of a host in memory say, by subject.
pub mod Access
pub mod InMemory
pub mod Lines
pub mod Places
pub mod Plans
