pub mod Listed
pub mod Plans
pub mod Report
pub mod Accepted
