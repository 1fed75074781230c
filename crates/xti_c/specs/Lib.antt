pub mod Answers
pub mod Lines
pub mod Opening
pub mod Owned
pub mod Seeing
