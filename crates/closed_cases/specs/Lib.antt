-- The sets of the closed cases.
pub mod ClosedCases
pub mod TwoRuns
