pub mod Lines
pub mod Counting
pub mod Strings
pub mod Excerpts
pub mod Keeping
pub mod Recalling
pub mod Internal
