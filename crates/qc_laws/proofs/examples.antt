mod Answers
mod Fits
mod History
mod Sessions
mod Sizes
