pub mod Texts
pub mod Words
pub mod Values
pub mod Numbers
pub mod Noted
pub mod WrittenWords
