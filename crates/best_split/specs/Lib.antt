pub mod Views
pub mod Traces
pub mod Tables
pub mod Finds
