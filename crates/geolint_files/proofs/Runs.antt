-- What a run has reported: the worst outcome, the files, and the lines of their features.
pub mod WorstOutcome
pub mod ToldFiles
pub mod ListedFiles
pub mod FollowedFiles
pub mod NamedFiles
