pub mod Keys
pub mod Ascii
pub mod Releases
pub mod Valid
pub mod Worked
