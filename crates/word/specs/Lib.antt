-- What a word's functions answer.
pub mod Refused
pub mod Said
pub mod Calls
pub mod Locates
