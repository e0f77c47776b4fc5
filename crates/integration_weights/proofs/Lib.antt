-- The laws behind the functions; that no shape and no first weight is negative (Nonnegative, AcceptedWeights); closed cases.
pub mod ShapeLaws
pub mod SlotLaws
pub mod CheckLaws
pub mod Nonnegative
pub mod ValueLaws
pub mod AcceptedWeights
pub mod ClosedCases
