-- The laws of what stands where in a slice: how a loop extends it, and that it is the definitions' lists. Products of counts, float laws, leg orders.
pub mod SplitLaws
pub mod FloatLaws
pub mod RegionLaws
pub mod LayoutLaws
pub mod Products
pub mod ColsLaws
pub mod SignedRead
pub mod ReadLaws
pub mod WorkLaws
pub mod LegOrders
pub mod FilledLaws
