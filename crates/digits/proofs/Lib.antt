pub mod Answers
pub mod ReadingLaws
pub mod WritingLaws
pub mod RoundTrip
pub mod Unique
