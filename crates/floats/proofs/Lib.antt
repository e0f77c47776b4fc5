-- The laws. Compare: what comparisons say of magnitudes. Unsigned, Signs, Numbers: no NaN and no sign; a NaN or no sign; no NaN. Bounds, SignedBounds,
-- Quotients, Doubled: the size of rounded results. Least, Sums: results not smaller than an operand, sums
-- above zero. Integers, WholeLaws: whole numbers that are not rounded.
pub mod Compare
pub mod Unsigned
pub mod Signs
pub mod Bounds
pub mod SignedBounds
pub mod Quotients
pub mod Numbers
pub mod Doubled
pub mod Least
pub mod Sums
pub mod Integers
pub mod WholeLaws
