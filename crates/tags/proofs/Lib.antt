pub mod WordLaws
pub mod Unique
