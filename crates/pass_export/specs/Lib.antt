pub mod Told
pub mod Searched
