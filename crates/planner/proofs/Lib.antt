pub mod Loads
pub mod Places
pub mod Judging
pub mod Laws
pub mod Making
pub mod Running
