-- The walk over the entries of folders.
pub mod WalkedEntries
