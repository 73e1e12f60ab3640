-- Turns of a program, whatever the reads gave
pub mod Streams
