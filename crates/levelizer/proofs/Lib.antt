mod Counting
mod Places
mod Reach
mod Sweeps
mod Walks
