-- what the contracts cite
pub mod Items
pub mod Reasons
pub mod Codes
pub mod Earlier
pub mod Names
pub mod Text
