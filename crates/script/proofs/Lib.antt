pub mod Contents
pub mod Digits
pub mod Feeds
pub mod KindsRead
pub mod Plans
pub mod Runs
pub mod Spaces
pub mod Spellings
