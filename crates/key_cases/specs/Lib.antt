-- Document 01's key cases as the program takes them.
pub mod Cells
pub mod Left
