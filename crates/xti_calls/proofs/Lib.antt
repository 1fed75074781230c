pub mod Readiness
pub mod Unfinished
pub mod Going
pub mod Newcomers
pub mod LastSteps
pub mod Replied
pub mod Parts
