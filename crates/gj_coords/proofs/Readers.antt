-- What is read of a value, and what is found in it.
pub mod SentLaws
pub mod RestsOfValues
pub mod PassedValues
pub mod BboxLaws
pub mod LeastOfSome
pub mod AgreeingPositions
pub mod EventCounts
pub mod WarningsOfElements
