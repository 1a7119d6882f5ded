pub mod Page
pub mod Replays
pub mod Changes
