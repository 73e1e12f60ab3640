-- What the exported functions owe.
pub mod Figured
pub mod Calls
