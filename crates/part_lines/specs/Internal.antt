-- What the proofs and the private functions of this crate need.
pub mod NotesSoFar
pub mod Places
