mod Following
mod Rows
mod Calls
mod Pieces
mod Taking
mod InStep
mod Steps
mod Riding
mod Calling
pub mod Shares
