-- The whole output of `pick`, from the bytes that it reads.
-- First what the contract rests on.
pub mod Promise
-- what follows from it: the answer is determined, and expressions and texts with what is printed for them
pub mod Unique
pub mod Sample
pub mod Edges
pub mod ReadThenMatch
-- how the code comes to its answer
pub mod OutputWritten
pub mod Loop
pub mod Report
