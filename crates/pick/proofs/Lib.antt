-- What is printed, by another name.
pub mod Told
