-- What the contracts of the text's functions cite.
pub mod Laid
pub mod Read
