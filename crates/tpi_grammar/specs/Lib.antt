pub mod Form
pub mod Word
pub mod Frame
pub mod Kinds
pub mod Measured
pub mod Measuring
pub mod Frames
