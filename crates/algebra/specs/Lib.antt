-- Exclusive or, registers and additive maps
pub mod Xor
pub mod Register
pub mod Linear
-- Tables, words, remainders
pub mod Tables
pub mod Words
pub mod Remainder
pub mod Sums
-- Fields by tables of powers and logarithms
pub mod LogTables
-- and places by their marks
pub mod Marking
pub mod Field256
