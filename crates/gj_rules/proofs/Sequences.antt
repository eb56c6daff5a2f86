-- Text sequences, record by record.
pub mod OpenRecords
pub mod OneVerdict
pub mod UndecidedSequences
pub mod RefusedRecords
pub mod SequenceSteps
pub mod PlacesTold
pub mod SaidSequences
