-- What the contracts of the tests say beside phonon's definitions.
pub mod Phases
