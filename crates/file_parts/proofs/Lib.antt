mod Common
mod CutPlaces
mod SearchedBytes
mod WindowReads
mod PartBounds
mod JoinedVerdicts
mod RangeNumbers
mod WholeText
mod NotesOfParts
pub mod NotesOfWholes
mod ReadBytes
mod TrueSums
mod SeamsRead
mod LikelyPlaces
mod FoundParts
mod PlacesInTexts
