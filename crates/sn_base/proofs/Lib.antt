pub mod MapBorrows
pub mod Maps
pub mod Prefixes
pub mod SumLaws
