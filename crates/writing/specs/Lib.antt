-- Writing a table of steps out of the room where its states were found. First the definitions that the contracts rest
-- on, then what follows from them.
pub mod Filled
pub mod Written
pub mod FilledLaws
pub mod WrittenLaws
