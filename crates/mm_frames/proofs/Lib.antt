mod Owned
mod Pages
mod Mended
mod Others
pub mod NumberLemmas
pub mod FrameLemmas
