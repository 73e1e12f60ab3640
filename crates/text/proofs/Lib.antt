-- Texts laid into a buffer

pub mod LaidLaws
pub mod DecimalLaws
pub mod HexLaws
-- Texts compared
pub mod SameLaws
-- A line's fields
pub mod ReadLaws
pub mod FieldLaws
-- Whole lines
pub mod OpeningLaws
pub mod RecordLaws
pub mod DataLaws
