pub mod JournalText
pub mod Writing
pub mod Summaries
pub mod Counting
