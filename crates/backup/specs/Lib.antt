pub mod Copy
pub mod Mend
pub mod Whole
