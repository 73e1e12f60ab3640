-- What the contracts of the factory's functions cite.
pub mod Room
