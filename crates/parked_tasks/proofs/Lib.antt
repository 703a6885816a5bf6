-- Lemmas of tasks that are parked, and of what is touched.
pub mod Indexes
pub mod Results
pub mod TouchedFiles
pub mod TouchedThings
pub mod UserLists
pub mod Woken
