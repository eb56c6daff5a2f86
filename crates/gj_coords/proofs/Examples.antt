-- What the definitions say of some values, by computing.
pub mod TextRows
pub mod FaultExamples
pub mod ReportedExamples
pub mod WindingExamples
pub mod ConcernExamples
