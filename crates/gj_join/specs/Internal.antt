-- What the proofs of this crate need.
pub mod Totals
pub mod PassedRuns
