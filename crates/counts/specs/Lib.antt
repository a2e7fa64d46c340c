-- Counts: their bytes one after the other as the scanner takes them, and their form as the prose has it.
pub mod Count
pub mod CountRun
pub mod CountGrammar
pub mod CountSigns
pub mod CountSound
pub mod CountComplete
pub mod CountReading
pub mod CountReadingLaws
