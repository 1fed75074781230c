pub mod Accepts
pub mod Calls
pub mod Taken
pub mod Connects
pub mod Frames
pub mod Hearing
pub mod Disconnects
pub mod Closes
