-- Four numbers in one.
pub mod Packed
