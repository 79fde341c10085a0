pub mod Words
pub mod Sets
pub mod Numbers
pub mod Sections
pub mod Parts
pub mod Puts
pub mod Answers
