-- The demands, of what C gets
pub mod Demands
-- Laws of what decode says, in the code's struct and as C gets it
pub mod FiguresLaws
-- The demands, of a frame that C gets in pieces
pub mod Arrivals
