pub mod FeatureFile
pub mod Files
pub mod Lines
