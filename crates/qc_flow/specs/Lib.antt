pub mod Streams
pub mod Seats
pub mod Growths
pub mod Fills
pub mod Endings
pub mod Begins
pub mod Hits
