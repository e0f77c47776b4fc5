-- The case that document 01 prints.
pub mod Seal
pub mod CellU
