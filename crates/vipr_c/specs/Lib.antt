pub mod AnswerOf
pub mod Handed
pub mod Written
