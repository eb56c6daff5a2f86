-- The parts of an input, and what is found in its records.
pub mod PartCuts
pub mod CountedParts
pub mod FoundRecords
pub mod RecordSteps
pub mod SequencesByRecords
pub mod OneFinding
pub mod DecidedRecords
