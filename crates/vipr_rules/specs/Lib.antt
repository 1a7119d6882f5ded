pub mod Profile
pub mod Context
pub mod Soundness
pub mod Apply
pub mod Claim
pub mod Solution
pub mod Columns
