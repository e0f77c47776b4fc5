-- What the contracts of the scans, of the sizes and of the checks' answers say beside phonon's definitions.
pub mod Scan
pub mod Small
pub mod Answers
