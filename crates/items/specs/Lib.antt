pub mod ItemText
pub mod Patch
pub mod Job
pub mod Jobs
pub mod Parts
pub mod Patches
