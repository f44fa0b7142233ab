pub mod Known
pub mod Ends
pub mod Parts
pub mod Views
pub mod Vertices
