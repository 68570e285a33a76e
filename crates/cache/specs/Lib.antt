pub mod Answers
pub mod Both
pub mod Data
pub mod Instruction
pub mod Step
pub mod Within
