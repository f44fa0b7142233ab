pub mod Splits
pub mod Problems
pub mod Breaches
pub mod Judged
