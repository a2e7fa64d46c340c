-- The line of a record.
-- First the definitions that the contracts rest on.
pub mod Depth
pub mod Node
-- how the code comes to its answer, and how long a line can be
pub mod NodeCases
pub mod NodeLaws
