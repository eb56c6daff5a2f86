pub mod Lines
pub mod Sealed
pub mod LineText
pub mod LineObject
pub mod Writable
pub mod Agreed
pub mod Internal
