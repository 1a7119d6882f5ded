pub mod Digest
pub mod Spelling
