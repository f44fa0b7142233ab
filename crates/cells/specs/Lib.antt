pub mod Cells
pub mod Rows
pub mod Tables
pub mod Falls
