pub mod Families
pub mod Verbs
