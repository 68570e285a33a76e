pub mod Record
pub mod Answers
pub mod Step
pub mod Run
pub mod Plain
pub mod Made
