-- The laws that belong to no one function.
pub mod PlaceLaws
pub mod AcceptedLaws
pub mod TextLaws
