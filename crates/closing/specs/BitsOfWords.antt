-- The bits of a word, and which bit of which word is a state's.
pub mod Bits
pub mod LowestBit
pub mod Taking
pub mod NodeParts
pub mod Numbers
pub mod Spots
pub mod Zero
pub mod AllZero
pub mod KnownByMarks
pub mod MadeAnew
