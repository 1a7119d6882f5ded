pub mod Parts
pub mod Fields
pub mod Reading
pub mod Words
