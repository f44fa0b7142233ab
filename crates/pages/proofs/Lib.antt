pub mod Largest
pub mod Parts
