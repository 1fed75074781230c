pub mod FrameText
pub mod Wrong
