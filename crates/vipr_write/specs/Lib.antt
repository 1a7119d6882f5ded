-- what the contracts cite
pub mod Canonical
pub mod Forms
pub mod Laws
pub mod Example
pub mod Lines
pub mod WrittenText
pub mod Folded
pub mod BegunCode
pub mod Weight
pub mod StepReasons
pub mod Steps
