pub mod Errno
pub mod Kinds
pub mod Limit
pub mod Room
pub mod Options
pub mod Negotiation
pub mod Structures
pub mod Words
