mod ControlWords
mod Kept
mod Makes
mod Packing
