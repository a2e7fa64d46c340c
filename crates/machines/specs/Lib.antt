-- What a table of steps is made of: columns of bytes, states found one after the other, and the entries. That it runs
-- as the language, that it is one only, and when it fits.
pub mod Columns
pub mod Explored
pub mod TableOf
pub mod Leading
pub mod OneStateLaws
pub mod ExploredFacts
pub mod ExploredLaws
pub mod AllFoundLaws
pub mod TableUnique
pub mod TableFitsLaws
pub mod Example
