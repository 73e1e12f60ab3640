-- The rules of docs/RULES.md as definitions, in its order.
pub mod Field
pub mod Codes
pub mod Words
pub mod Frames
pub mod Bits
pub mod Passes
pub mod Numbers
pub mod Block
pub mod Damage
