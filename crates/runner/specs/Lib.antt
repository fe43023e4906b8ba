pub mod Answers
pub mod Looks
pub mod Numerals
pub mod Sessions
pub mod Setups
pub mod Steps
pub mod Transcripts
