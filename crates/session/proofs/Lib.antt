pub mod Answers
pub mod Unique
pub mod Effects
pub mod Keeping
pub mod Made
pub mod Calls
pub mod Rooms
