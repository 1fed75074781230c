pub mod Texts
pub mod CopyTexts
pub use Rattle.xti_laws.specs.Answers
