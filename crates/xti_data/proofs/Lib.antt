pub mod Reached
pub mod Shares
pub mod Changes
pub mod Rows
pub mod ReleaseRows
pub mod Sizes
pub mod DatagramRows
pub mod DatagramReached
