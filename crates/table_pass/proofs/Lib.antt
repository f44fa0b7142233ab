pub mod Falls
pub mod Next
pub mod Offers
pub mod Rows
pub mod Same
