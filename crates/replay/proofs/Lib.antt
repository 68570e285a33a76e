-- What the proof of a line's limits cites.
pub mod Limits
