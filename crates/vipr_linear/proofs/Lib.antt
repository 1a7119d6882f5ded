mod Rows
mod Sets
mod Marks
mod Counting
mod Adding
mod Collecting
mod StepByStep
mod Roundings
mod Valuing
mod Searching
mod Points
mod Printing
pub mod Laws
