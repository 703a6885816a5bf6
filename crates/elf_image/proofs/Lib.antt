pub mod HeaderPairs
pub mod ImageFaults
pub mod LoadableImages
pub mod ImageLaws
