pub mod Cuts
pub mod Ranges
pub mod Checked
pub mod JoinedNotes
pub mod Internal
pub mod Sums
pub mod ReadRuns
pub mod Likely
