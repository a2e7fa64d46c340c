-- Match and search in the rows of a list: the part of a text that is found, and how the code comes to it.
pub mod Found
pub mod PartLaws
pub mod Progress
pub mod Taken
pub mod SearchAnswers
pub mod Answering
