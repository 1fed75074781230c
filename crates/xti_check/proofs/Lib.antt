pub mod Judged
pub mod Sameness
pub mod Standing
pub mod Lines
pub mod Numbers
