mod PathSearches
mod ReadVerdicts
mod RoomWrites
mod QuickReadings
mod DecidedSequences
mod VerdictReports
