pub mod RowSteps
pub mod Falls
pub mod Stops
pub mod Clears
