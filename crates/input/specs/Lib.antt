-- What the contracts of the functions cite that read standard input.
pub mod Calls
