-- The whole output of `explain`, from the bytes that it reads.
-- First what the contract rests on.
pub mod Explained
pub mod Promise
-- what follows from it: the answer is determined
pub mod Unique
-- how the code comes to its answer
pub mod Rule
