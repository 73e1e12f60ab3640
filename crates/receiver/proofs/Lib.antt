-- What the functions' proofs cite, and what follows from the contract.
pub mod RefusalLaws
pub mod ReceiveRule
pub mod Arrivals
pub mod Demands
pub mod Packing
pub mod Items
