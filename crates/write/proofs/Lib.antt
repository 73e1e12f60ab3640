-- What the program writes, whatever the reads gave
pub mod Streamed
