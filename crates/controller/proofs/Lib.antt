pub mod Numbers
pub mod Carried
pub mod Moved
