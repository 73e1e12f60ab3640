-- Laws that the programs' proofs cite
-- Bits and words of a buffer
pub mod InPlaceLaws
pub mod ByteLaws
pub mod CopyLaws
pub mod ChainLaws
pub mod CheckLoopLaws
pub mod MendLaws
pub mod WordBytesLaws
-- From checks to the answer, and from data to checks
pub mod PlaceLaws
pub mod PlaceValues
pub mod LocatedLaws
pub mod LocateSteps
pub mod SettleLaws
-- Frames, word by word
pub mod TurnLaws
pub mod CornerLaws
pub mod CountLaws
pub mod ErasedLaws
pub mod PassLoopLaws
pub mod PassStepLaws
-- The entry points
pub mod RefusalLaws
pub mod EncodeLaws
pub mod DecodeLaws
pub mod ReadLaws
