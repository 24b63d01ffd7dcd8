mod Replies
mod Wire
