pub mod WaitingList
pub mod Frames
pub mod Waiting
pub mod Held
pub mod Kept
pub mod Callers
pub mod Taken
pub mod Negotiating
