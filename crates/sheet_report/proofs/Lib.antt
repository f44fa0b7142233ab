pub mod LeastSplits
pub mod Lines
pub mod Told
