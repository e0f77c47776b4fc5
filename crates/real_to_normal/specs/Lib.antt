-- The layout of the work buffer, and what the slots are of it; and what their strengths are worked from.
pub mod Work
pub mod Operands
