pub mod Leads
pub mod Last
pub mod Solves
pub mod Planning
