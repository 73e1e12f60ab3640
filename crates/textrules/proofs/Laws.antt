-- Fields and decimals

pub mod TextLaws
-- Decimals, hex, and a line of both, as they are written and as they are tested
pub mod DigitFormLaws
pub mod RecordFormLaws
-- Every definition opened at once
pub mod Computing
