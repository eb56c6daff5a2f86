mod Common
pub mod PieceReads
pub mod ElementsInTurn
mod FileVerdicts
pub mod QuickFiles
mod LineVerdicts
mod FoundSites
mod SoughtPlaces
mod FollowedPaths
mod ToldPaths
mod TextPlaces
mod KeptExcerpts
mod HeldSites
mod ReportedSites
mod PlacesInOrder
pub mod CodeSlots
mod TalliedNotes
mod KeptNotes
mod KeptRecords
mod FurtherReadings
mod CursorPlaces
mod PlacedNotes
mod GivenNames
mod NamesLeft
