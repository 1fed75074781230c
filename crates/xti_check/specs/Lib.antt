pub mod Verdicts
pub mod Parts
pub mod Judging
pub mod Answers
pub mod Judgements
pub use Rattle.xti_journal.specs.Grammar
