-- What a frame keeps of an open object, and what it reports at its close.
pub mod WarningsInTurn
pub mod AskedShapes
pub mod MemberSlots
pub mod SlotsByPlace
pub mod MetRules
pub mod OneMember
pub mod AllMembers
pub mod FaultsInAnyOrder
pub mod SettledObjects
pub mod JoinedFindings
pub mod CleanFrames
pub mod GatheredMembers
pub mod ClosedFrames
pub mod WarningsKept
pub mod FedSummaries
pub mod RestingSummaries
pub mod GrowingFaults
