-- What the contracts of the functions cite that take a text line by line.
pub mod Stream
pub mod Say
pub mod Calls
