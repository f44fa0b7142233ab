pub mod Limits
pub mod Loads
pub mod Views
pub mod Spelled
pub mod WhichKinds
