pub mod Primitive
pub mod Fields
pub mod Lent
pub mod Decoding
pub mod Fed
pub mod Reading
pub mod Indication
