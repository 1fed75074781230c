pub mod Reach
pub mod Sends
pub mod Portions
pub mod DatagramSends
pub mod DatagramReach
