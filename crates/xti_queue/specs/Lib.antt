pub mod Indications
pub mod Queue
pub mod Kept
pub mod Front
