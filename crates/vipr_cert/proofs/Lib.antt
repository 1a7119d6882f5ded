mod Viewing
mod Within
mod Backwards
mod Members
pub mod Laws
