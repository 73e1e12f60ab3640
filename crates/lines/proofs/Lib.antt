-- The state, as the code goes

pub mod StateLaws
pub mod StopLaws
-- What a program hands out, whatever the pieces
pub mod HandedLaws
pub mod RunLaws
pub mod CutLaws
pub mod Pieces
pub mod Determined
