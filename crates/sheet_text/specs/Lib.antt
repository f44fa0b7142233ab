pub mod Causes
pub mod Fields
pub mod Numbers
pub mod Items
pub mod Reading
pub mod Texts
