pub mod Contents
pub mod Bodies
pub mod Layout
pub mod Written
pub mod Laws
