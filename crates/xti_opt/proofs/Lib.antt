pub mod Words
pub mod Fronts
pub mod Lists
pub mod Spelling
pub mod Negotiating
pub mod Values
pub mod InBytes
