pub mod Histories
pub mod Rule
pub mod Steps
pub mod Marks
