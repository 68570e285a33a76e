pub mod Answers
pub mod Access
pub mod Pipeline
pub mod Segments
pub mod Translate
pub mod Former
