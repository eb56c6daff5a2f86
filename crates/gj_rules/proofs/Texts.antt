-- The rules over the events of a text, and the places that they report.
pub mod TimedEvents
pub mod ValuesByEvents
pub mod EventOrder
pub mod FramesInUse
pub mod RoleDepths
pub mod OneEventMore
pub mod IgnoredValues
pub mod LinterEvents
pub mod WiderLimits
pub mod OneFlatMore
pub mod WholePoints
pub mod LatePoints
pub mod PositionsMore
pub mod PlacesOfFaults
pub mod PlacesOfWarnings
