pub mod Paces
pub mod Pages
