-- The field and the word
pub mod FieldPromise
pub mod Codewords
pub mod Distance
pub mod Answers
-- The frame, and what stands in the output
pub mod Encoding
pub mod RoundTrip
pub mod Passes
pub mod CountBounds
pub mod EntryRules
pub mod Entries
pub mod Erased
pub mod Determined
pub mod Refusals
pub mod Blocks
-- Demand 3, and where it ends
pub mod RepairFrames
pub mod Repair
pub mod Limit
pub mod Premise
-- All of it, of a code
pub mod Promised
-- The bench items
pub mod Bench
