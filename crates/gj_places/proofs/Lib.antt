pub mod Blocks
mod CountedPieces
mod KeptLines
mod Lanes
mod Recalled
mod Spelling
