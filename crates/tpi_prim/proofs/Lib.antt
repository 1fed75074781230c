pub mod FrameReads
pub mod FieldReads
pub mod FilledIn
pub mod Decodes
pub mod FeedReads
pub mod Words
pub mod Writing
