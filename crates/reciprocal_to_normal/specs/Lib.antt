-- The words of the contracts: places, contracted arrays, columns, slots, planes and the full listing.
pub mod Places
pub mod Arrays
pub mod Columns
pub mod Slots
pub mod Plane
pub mod Listing
