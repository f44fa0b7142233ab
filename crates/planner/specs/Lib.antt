pub mod States
pub mod Views
pub mod Plans
pub mod Answers
pub mod Law
pub mod Runs
pub mod Kept
