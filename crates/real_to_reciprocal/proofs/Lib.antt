-- The laws behind q, the phase factors, the sums over pairs, the blocks and the region that they fill.
pub mod QLaws
pub mod TestLaws
pub mod PhaseLaws
pub mod ThreeLaws
pub mod CopyLaws
pub mod PairLaws
pub mod HeldLaws
pub mod ElementLaws
pub mod ShapeLaws
pub mod StoredLaws
pub mod BlockLaws
pub mod FactorLaws
pub mod ReciprocalLaws
