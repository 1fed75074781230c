pub mod Playable
pub mod Answered
pub mod Copied
pub mod Reported
pub mod Judged
