-- What the proofs and the private functions of this crate need.
pub mod NumberMachine
pub mod KeptParts
pub mod KeptDigits
pub mod DigitRuns
pub mod DigitLanes
pub mod CutLanes
pub mod MovedPoint
