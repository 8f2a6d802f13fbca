pub mod Hosting
pub mod Waiting
pub mod Counting
pub mod Writing
pub mod Progress
