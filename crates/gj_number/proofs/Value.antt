-- Which decimal a number denotes, and where it is held.
pub mod NormalForm
pub mod HeldLimits
pub mod OneDenotation
pub mod SameDecimals
pub mod HeldDecimals
pub mod UnheldNumbers
pub mod DenotedExamples
