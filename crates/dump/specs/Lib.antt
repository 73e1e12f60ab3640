-- What the contracts of the dump's functions cite.
pub mod ReportText
