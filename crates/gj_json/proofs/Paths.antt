-- The path to a place, and what a locator keeps of it.
pub mod PathSteps
pub mod EventTrails
pub mod ClosedLevels
pub mod PathsOfStates
pub mod LocatorSteps
pub mod PathExamples
