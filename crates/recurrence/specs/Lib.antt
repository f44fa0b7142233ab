pub mod Table
pub mod Stages
pub mod Chosen
pub mod Laws
pub mod Planned
pub mod Cases
