-- What the proofs and the private functions of this crate need.
pub mod AddedFiles
pub mod WrittenCommas
pub mod WrittenDetails
