mod Common
mod JoinedElements
mod FileCounts
pub mod CommasBetween
mod ShownNames
mod DetailsInParentheses
mod ResultsBetween
