pub mod FieldReads
pub mod FieldWrites
