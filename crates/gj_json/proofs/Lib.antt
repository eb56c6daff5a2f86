mod Common
pub mod Grammar
pub mod Machine
pub mod Events
pub mod Readers
pub mod Pieces
pub mod Paths
