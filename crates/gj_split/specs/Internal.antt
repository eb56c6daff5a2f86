-- What the proofs and the private functions of this crate need.
pub mod ScannedValues
pub mod ToldFeatures
pub mod HeldRecords
pub mod HeldOfRecords
