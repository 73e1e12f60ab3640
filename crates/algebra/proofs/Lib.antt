-- Exclusive or, additive maps, registers
pub mod Digits
pub mod XorLaws
pub mod LinearLaws
pub mod RegisterLaws
pub mod Inverse
-- Fields, Vandermonde, power sums
pub mod Field
pub mod Vandermonde
pub mod PowerSums
pub mod LogTableLaws
pub mod RegisterField
pub mod RegisterProduct
pub mod PlacesIndependent
pub mod MarkLaws
pub mod PairLaws
pub mod Field256Laws
-- Tables, words, remainders
pub mod TableLaws
pub mod WordLaws
pub mod ParityLaws
pub mod RemainderLaws
pub mod DivisionLaws
pub mod Independent
