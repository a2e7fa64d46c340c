-- A text that is empty.
pub mod EmptyText
pub mod Sought
