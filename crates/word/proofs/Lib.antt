-- Demands 1 and 2, of the single word
pub mod Demands
-- Laws of a word's code
pub mod SaidLaws
-- Laws of the refusals
pub mod RefusedLaws
-- Laws of the answers
pub mod AnswerLaws
