-- How words hold marks, what the rows of a list hold, and that a walk of each piece finds the codes of its states.
pub mod Words
pub mod Plan
pub mod Tables
pub mod Entries
pub mod Standing
pub mod Filling
pub mod Walking
