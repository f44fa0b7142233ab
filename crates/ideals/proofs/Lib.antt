pub mod Elements
pub mod Filtered
pub mod Fronts
pub mod Growing
pub mod Listings
pub mod Members
