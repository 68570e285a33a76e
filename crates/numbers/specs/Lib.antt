pub mod Table
pub mod RegisterFile
pub mod Translation
pub mod Segments
pub mod Modes
pub mod Entries
pub mod Exceptions
pub mod Caches
