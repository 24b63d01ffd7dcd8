mod Keys
mod Published
