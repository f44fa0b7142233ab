pub mod Makes
pub mod Describes
