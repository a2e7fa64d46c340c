-- How the marks of one piece are closed. In the order of reading.
-- the bits of a word, and which bit of which word is a state's
pub mod BitsOfWords
-- what it is for a word to be closed, and for each word of a list
pub mod WordClosed
pub mod EachPieceClosed
-- closing by passes over the states
pub mod Passes
-- what closing and sweeps keep
pub mod Within
