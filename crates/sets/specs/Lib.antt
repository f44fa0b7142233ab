pub mod Sets
pub mod Laws
pub mod Walks
