-- Which events a byte completes, and how many containers are open.
pub mod EventsInTurn
pub mod EventCount
pub mod EventTimes
pub mod PastEvents
pub mod EventsOfSteps
pub mod OpenContainers
pub mod FinishedTexts
pub mod IgnoredEvents
