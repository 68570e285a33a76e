pub mod Registers
pub mod Table
pub mod Answers
pub mod Numbered
pub mod Modes
pub mod Exceptions
pub mod Translation
pub mod Sessions
