-- Which query a JSON text is.
pub mod Trees
pub mod Predicates
pub mod Written
pub mod QueryTexts
pub mod TextFlaws
pub mod Answers
pub mod Borrowed
pub mod Reads
