-- what the contracts cite
pub mod Passes
pub mod Keeping
pub mod Dropping
pub mod Tightens
pub mod Text
