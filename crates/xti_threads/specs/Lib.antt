pub mod Working
pub mod Setting
pub mod Starting
pub mod Meeting
