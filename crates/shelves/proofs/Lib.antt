pub mod FlatPacks
pub mod KindRows
pub mod Sectors
pub mod Decks
pub mod CardPacks
