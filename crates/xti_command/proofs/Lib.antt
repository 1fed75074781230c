pub mod Seeds
pub mod Commands
