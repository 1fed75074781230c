pub mod Outcomes
pub mod Standings
pub mod Afters
pub mod Looked
