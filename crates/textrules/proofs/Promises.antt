-- The dump and its report, and the factory's data

pub mod Records
pub mod DataRecords
pub mod LongestLine
pub mod Lines
pub mod Outputs
pub mod RecordSays
pub mod Reports
-- The factory's data, the dump written of them, and that dump's report
pub mod Written
pub mod Meet
