-- What the definitions say of some texts, by computing.
pub mod FaultExamples
pub mod WarningExamples
pub mod FeatureExamples
pub mod RecordExamples
