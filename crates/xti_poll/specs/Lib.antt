pub mod Sets
pub mod Polls
pub mod Sums
pub mod Tables
pub use Rattle.xti_gather.specs.Glances
pub use Rattle.xti_hall.specs.Words
