pub mod Keyed
pub mod Hash
pub mod Laws
