mod Common
pub mod MovedTrees
pub mod SpelledBytes
pub mod MovedShapes
pub mod MovedFaults
pub mod ElementBytes
pub mod TextsAlone
pub mod SequencesOfTexts
pub mod ReadParts
pub mod ScannedValues
pub mod HeldRecords
pub mod ToldFeatures
pub mod Outcomes
pub mod WholeReadings
pub mod RecordTexts
pub mod RecordsApart
pub mod HeldOfRecords
pub mod KeptRecords
