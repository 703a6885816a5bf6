-- What proofs of code that borrows from a map say of it.
pub mod MapLends
