pub mod Opened
pub mod Loading
pub mod Reads
pub mod Pairs
