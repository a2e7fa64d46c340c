-- What the outside interface answers.
pub mod Promise
pub mod PackedBounds
pub mod Unique
pub mod WideningLaws
pub mod LinesLaws
pub mod TablingLaws
pub mod Calls
