mod Commands
mod Effects
mod Errors
pub mod Keys
mod Order
mod Rows
mod Rules
