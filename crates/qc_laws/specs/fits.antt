pub mod Sound
pub mod Open
pub mod Laws
