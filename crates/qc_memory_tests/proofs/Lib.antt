mod Checks
mod Fresh
mod Meetings
mod Pushes
mod Threes
