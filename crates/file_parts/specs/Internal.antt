-- What the proofs and the private functions of this crate need.
pub mod Begins
pub mod JoinedSoFar
pub mod Covered
pub mod EarlyEnds
pub mod Reading
