pub mod Cards
pub mod Flat
pub mod Laws
