-- What matching the lines of a text promises.
pub mod Answer
pub mod Promise
pub mod Unique
-- the loop over the lines
pub mod LinesLoop
