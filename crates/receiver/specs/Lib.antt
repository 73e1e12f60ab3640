-- What receiving a frame in pieces is.
pub mod Pieces
pub mod Packed
pub mod Calls
