-- A refusal in words: first the definition, then how long the words can be.
pub mod RefusalWords
pub mod RefusalWordsLaws
