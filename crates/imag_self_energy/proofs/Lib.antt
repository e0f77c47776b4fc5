-- The laws that belong to no one function: of the sum, and of the door's checks.
pub mod Laws
pub mod ListLaws
pub mod CheckLaws
pub mod SlotLaws
