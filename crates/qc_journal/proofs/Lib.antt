pub mod Maps
pub mod Finding
pub mod Numbers
pub mod Sessions
