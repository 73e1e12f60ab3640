-- Bits, bytes and shapes
pub mod Shape
pub mod BitLaws
pub mod PackLaws
-- The field
pub mod FieldLaws
-- Codes and words
pub mod CodeLaws
pub mod SmallCode
pub mod CheckLaws
pub mod SearchLaws
pub mod PatternLaws
pub mod NearestLaws
pub mod EncodeWordLaws
-- Frames and passes
pub mod FrameLaws
pub mod ErasedLaws
pub mod ProductLaws
pub mod PassLaws
pub mod DifferenceLaws
pub mod FlipLaws
pub mod TwoPasses
-- Numbers
pub mod OneOfLaws
pub mod NumberLaws
-- Every definition opened at once
pub mod Computing
