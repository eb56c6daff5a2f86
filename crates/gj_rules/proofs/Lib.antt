mod Common
pub mod Examples
pub mod Objects
pub mod Texts
pub mod Doom
pub mod Features
pub mod Sequences
pub mod Parts
