-- The old layout of a record list, what it is in today's, and what turning one into the other promises.
pub mod OldLayout
pub mod OldLayoutLaws
pub mod OldExactly
pub mod Promise
pub mod PromiseLaws
