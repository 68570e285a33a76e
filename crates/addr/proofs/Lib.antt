pub mod Answers
pub mod Modes
pub mod SegmentLaws
pub mod TranslateLaws
pub mod WhichEntry
pub mod Limits
pub mod Unique
