-- Start and step in a list's rows, for callers that make these once. In the order of reading.
-- words that hold a set of states
pub mod Hold
-- the words after a text
pub mod Texts
-- refusal 13: the two bits of a shared state
pub mod SharedStates
-- making the rows, and what start and step in them do
pub mod Inner
-- a step of a list of one piece
pub mod Alone
