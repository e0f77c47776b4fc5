-- What the contracts of the sum say beside phonon's definitions.
pub mod Bands
pub mod Lists
pub mod Totals
