pub mod Indicated
pub mod Fronts
pub mod Steps
pub mod Counted
pub mod Firsts
