-- what the contracts cite
pub mod Tightened
