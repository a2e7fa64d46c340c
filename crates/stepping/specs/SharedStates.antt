-- Refusal 13: the two bits of a shared state.
pub mod Parents
mod Agreed
pub mod WordsChecked
pub mod Low
