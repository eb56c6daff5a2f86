-- One walk over a value for the six types at once.
pub mod FaultsOfLevels
pub mod HeldPositions
pub mod AnswersOfWalks
pub mod ReadValues
pub mod FlatLaws
pub mod SteadyLaws
pub mod SteadySteps
pub mod WarningsOfLevels
pub mod PreciseNumbers
pub mod CutPositions
pub mod PlainPoints
