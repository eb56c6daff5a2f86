-- What is kept of a list of warnings.
pub mod ListsStoodFor
pub mod ShiftedWarnings
pub mod KeptOfShortValues
pub mod KindsInTurn
pub mod ToldWarnings
