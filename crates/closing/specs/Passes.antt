-- Closing the word of a piece by passes over its states in their order.
pub mod RunOn
pub mod Laid
pub mod Jumping
pub mod Transitions
pub mod Closing
