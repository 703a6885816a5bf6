-- Laws of what a task reaches after it has stored, reserved or given up what it had reserved, by subject.
pub mod Addresses
pub mod Bytes
pub mod Decoded
pub mod Hands
pub mod Held
pub mod Pages
pub mod Places
pub mod Puts
pub mod Reservations
pub mod Reserving
pub mod Stores
pub mod Writes
