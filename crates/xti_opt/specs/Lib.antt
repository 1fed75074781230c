pub mod Read
pub mod Written
pub mod Table
pub mod Answers
pub mod Requests
