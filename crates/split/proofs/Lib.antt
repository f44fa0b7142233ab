pub mod Checks
pub mod Nexts
pub mod Rests
pub mod Verdicts
pub mod Rated
pub mod Backs
pub mod Judging
pub mod Judged
