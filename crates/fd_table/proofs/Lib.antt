pub mod SlotLaws
pub mod ListLaws
