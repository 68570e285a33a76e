pub mod AccessLaws
pub mod ByteLaws
pub mod Unique
