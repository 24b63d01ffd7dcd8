pub mod Names
pub mod Replies
pub mod Operations
pub mod Laws
