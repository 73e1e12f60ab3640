-- The dump's lines

pub mod LineLaws
-- The dump, whatever the pieces
pub mod Dumped
