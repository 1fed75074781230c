pub mod Numbers
pub mod Octets
pub mod Pieces
pub mod ValueTexts
pub mod Fields
pub mod Lines
pub mod ScriptTexts
mod MoreLines
mod KnownNames
mod LinesAreRead
mod Limits
mod GeneratedTexts
