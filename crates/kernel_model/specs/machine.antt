-- A task at work: images, registers, address spaces, instructions, random bytes.
pub mod Registers
pub mod Spaces
pub mod Instructions
pub mod Random
pub mod Image
pub mod FutexWords
