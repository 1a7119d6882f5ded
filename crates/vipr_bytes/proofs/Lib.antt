mod Handed
mod Grown
mod Handing
mod Putting
pub mod Laws
