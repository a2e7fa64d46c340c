-- What running a table over the lines of a text promises.
pub mod Promise
pub mod Unique
pub mod Lent
