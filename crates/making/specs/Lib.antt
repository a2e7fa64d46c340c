-- Making a table of steps of a list: the numbers of the answer, the promise, that it leaves no choice, and that a match
-- by the table is a match by marks.
pub mod Answer
pub mod Promise
pub mod Unique
pub mod Agrees
