pub mod Fronts
pub mod Changes
pub mod Charges
