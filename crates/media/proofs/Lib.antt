pub mod Crc
pub mod Headers
pub mod SamePacks
pub mod Shelves
