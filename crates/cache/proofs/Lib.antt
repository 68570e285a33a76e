pub mod PartLaws
pub mod Contents
pub mod OneToOne
pub mod Unique
pub mod Telling
pub mod Keeping
pub mod Running
