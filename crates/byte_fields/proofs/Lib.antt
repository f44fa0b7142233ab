pub mod Little
pub mod Wrote
