-- The laws that belong to no one function.
pub mod Laws
pub mod MeasureLaws
pub mod HeadingLaws
pub mod FileLaws
