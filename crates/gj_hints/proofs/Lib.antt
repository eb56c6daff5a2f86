pub mod NamedBytes
pub mod NextBytes
