-- The words in which the laws of f64 speak beside the definitions.
pub mod Sign
pub mod Size
pub mod Whole
