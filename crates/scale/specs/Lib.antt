pub mod Rules
pub mod Scales
pub mod Larger
pub mod Spelled
