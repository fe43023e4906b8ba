pub mod OneWord
pub mod Stamp
