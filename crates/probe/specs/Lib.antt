-- What the tests' exports owe.
pub mod Calls
