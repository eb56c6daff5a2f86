mod Common
pub mod Grammar
pub mod Value
pub mod Literals
pub mod Shorts
