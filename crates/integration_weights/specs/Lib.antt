-- Document 02, Ask 1: shapes, the weights that they give, the door's set, its refusal and what it leaves; what is claimed of it; and the words of its work.
pub mod Shapes
pub mod Weights
pub mod Sets
pub mod Refusal
pub mod Doors
pub mod Claims
pub mod Rows
