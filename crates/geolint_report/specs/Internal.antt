-- What the proofs and the private functions of this crate need.
pub mod SecondReading
pub mod SoughtPlaces
pub mod TextPaths
pub mod FurtherReading
pub mod Begun
