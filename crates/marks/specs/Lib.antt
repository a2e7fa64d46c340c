-- How start and step on words hold the marks of the plain simulation. In the order of reading.
-- What start and step promise, and what follows from it.
pub mod Answer
pub mod Promise
pub mod Chain
-- a step for each byte
pub mod StepsEach
-- lists that differ only in places
pub mod ButPlaces
pub mod ChainFollows
pub mod States
-- where nothing is left, nothing comes back
pub mod NothingLeft
-- either of them
pub mod Works
-- steps along many bytes
pub mod Along
