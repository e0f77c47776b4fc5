-- The words of the contracts: shapes of the tables, copies of an atom, one pair, what is stored of the region, three arrays side by side.
pub mod Shape
pub mod Copies
pub mod Pair
pub mod Stored
pub mod Three
