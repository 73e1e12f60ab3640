-- Words anywhere in a buffer, and frames as words in one of two directions: what the programs' contracts speak of.
pub mod InPlace
pub mod Turns
pub mod Located
pub mod Search
