pub mod Told
pub mod Calls
pub mod Peaks
pub mod Lines
pub mod Pairs
