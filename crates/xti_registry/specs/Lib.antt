pub mod Known
pub mod Word
pub mod Links
pub mod Chains
pub mod Kept
