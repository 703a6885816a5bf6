pub mod Causes
pub mod Files
pub mod Plans
pub mod Readings
pub mod Told
pub mod Walks
