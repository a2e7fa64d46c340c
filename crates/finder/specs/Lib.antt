-- What match and search answer: a text in the language, the earliest and then the longest part of a text that is.
-- First the definitions that the contracts rest on, then what follows from them.
pub mod Answer
pub mod Promise
pub mod Finds
pub mod Refusals
mod SearchUnique
pub mod Unique
-- lists that differ only in places
pub mod ButPlaces
-- the leaf of the empty text by itself
pub mod EmptyLeaf
-- tests that compute what is in a language, what is found and which marks words hold
pub mod Decide
pub mod DecideExactly
pub mod Searched
pub mod Computed
pub mod Held
pub mod Leaving
