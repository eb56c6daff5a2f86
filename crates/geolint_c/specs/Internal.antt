-- What only the proofs and the private functions need.
pub mod Pulling
