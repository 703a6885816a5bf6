pub mod Buffers
pub mod FieldsRead
pub mod Layouts
