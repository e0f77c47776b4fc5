-- The laws behind one triplet: places in the work buffer, legs, orders, slots, an accepted set.
pub mod PlaceLaws
pub mod LegLaws
pub mod OrderLaws
pub mod SlotLaws
pub mod SixLaws
pub mod TripletLaws
pub mod AcceptedLaws
