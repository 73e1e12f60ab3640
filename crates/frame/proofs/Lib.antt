-- The three demands, of the code
pub mod Demands
-- Laws of the frame's code
pub mod SaidLaws
pub mod ReportLaws
