-- How the bytes of a number are scanned, state by state, and which parts they have.
pub mod ByteClasses
pub mod ScanPaths
pub mod SpelledParts
pub mod RestsByState
pub mod PartScans
pub mod FoundParts
pub mod StateMoves
pub mod DecidedNumbers
