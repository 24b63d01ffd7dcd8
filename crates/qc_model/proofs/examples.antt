mod Keys
mod Machine
