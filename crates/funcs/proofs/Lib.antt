-- The laws behind the functions; that the floor is the greatest (Floor), the exponential at least 1 (ExpLeast) and up to 256 finite (ExpMost), an
-- occupation without sign (Occupation) and the source's mark right (Sentinel); and worked examples.
pub mod Series
pub mod Powers
pub mod Range
pub mod Changed
pub mod Reducible
pub mod Floor
pub mod Shift
pub mod Quarters
pub mod CountLaws
pub mod SeriesBounds
pub mod Remainder
pub mod ExpLeast
pub mod ExpMost
pub mod Occupation
pub mod Sentinel
pub mod Examples
