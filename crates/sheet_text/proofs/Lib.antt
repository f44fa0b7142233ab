pub mod Pieces
pub mod Digits
pub mod LineLists
pub mod Uptos
pub mod Words
pub mod Spellings
pub mod Readings
pub mod RoundTrip
