-- What is found in a text, by its features.
pub mod OwnText
pub mod ByFeature
pub mod HeardTrees
pub mod FeatureEvents
pub mod FeaturesSoFar
pub mod EventsPassed
pub mod FeaturesSaid
pub mod FeaturesInTime
pub mod FeaturesByCommas
