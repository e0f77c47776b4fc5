-- The laws behind the contractions, the dot product, the slots and the listing.
pub mod ContractLaws
pub mod ScaleLaws
pub mod DotLaws
pub mod PartLaws
pub mod ColumnLaws
pub mod SlotLaws
pub mod FlagLaws
pub mod AmplitudeLaws
pub mod ListingLaws
pub mod GatherLaws
