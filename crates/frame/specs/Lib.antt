-- What the frame's functions answer.
pub mod Said
pub mod Calls
pub mod Words
