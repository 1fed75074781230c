mod Shapes
pub mod Texts
pub mod Entries
mod CopyEntries
