pub mod Cases
pub mod Ideals
pub mod Listing
