pub mod Canonical
pub mod Families
pub mod Generated
pub use Rattle.xti_model.specs.Profile
pub use Rattle.xti_script_reader.specs.Grammar
