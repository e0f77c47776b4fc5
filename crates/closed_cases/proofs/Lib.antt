-- The closed cases, computed.
pub mod ClosedCases
pub mod TwoRuns
