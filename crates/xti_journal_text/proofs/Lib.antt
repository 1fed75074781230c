mod Spaces
mod Writes
pub mod Parts
pub mod Histories
