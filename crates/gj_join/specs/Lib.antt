pub mod Runs
pub mod Seams
pub mod RunLinter
pub mod Joiner
pub mod Internal
pub mod Parts
pub mod Joined
