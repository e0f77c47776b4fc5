-- What a slice holds: arrays in two planes, regions, the layout of the columns and the force constants.
pub mod Split
pub mod Region
pub mod Layout
