-- The theorems on the definitions, key cases (Cases) and demand 3 (TwoRuns), and the laws that the crates above share.
pub mod Answers
pub mod Evaluate
pub mod Cases
pub mod Laws
pub mod Order
pub mod TwoRuns
pub mod Lowest
pub mod Accepted
pub mod Shares
pub mod SameSets
