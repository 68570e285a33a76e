pub mod Access
pub mod Bytes
