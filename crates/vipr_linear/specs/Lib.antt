pub mod Row
pub mod Constraint
pub mod Accumulator
pub mod Touched
pub mod Rounding
pub mod Values
pub mod Split
pub mod Text
