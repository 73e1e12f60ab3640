-- The report's lines

pub mod ReportTextLaws
-- The report, whatever the pieces
pub mod Reported
