-- The words in which the contracts and the theorems of this crate speak beside the definitions.
pub mod Floor
pub mod Occupation
pub mod Reducible
