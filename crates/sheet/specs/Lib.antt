pub mod Rules
pub mod Nodes
pub mod Nets
pub mod Figures
pub mod Views
pub mod Changes
pub mod Kept
