pub mod Sheets
pub mod Rights
