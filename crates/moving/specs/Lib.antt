-- Moving along a byte: one word, all words, and all words with each piece closed. In the order of reading.
pub mod Codes
pub mod LeafCodes
pub mod Picking
pub mod WordMoved
pub mod WordsMoved
pub mod WordsClosed
pub mod WordsMovedClosed
pub mod Spans
pub mod Remembered
