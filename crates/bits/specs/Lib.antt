pub mod Told
pub mod Field
pub mod Mask
pub mod Extension
