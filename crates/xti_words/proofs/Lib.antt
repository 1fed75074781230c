pub mod Lines
mod Marks
pub mod FirstWord
pub mod LineEnd
pub mod WordLaws
pub mod TextBytes
pub mod WordBytes
pub mod Counting
pub mod HexLaws
mod Digits
mod HexPairs
mod Pairs
