mod Values
mod Marks
mod Walks
