pub mod Board
pub mod Stack
