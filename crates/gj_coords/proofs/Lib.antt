mod Common
mod TextLengths
pub mod Examples
pub mod Readers
pub mod Walks
pub mod Lists
