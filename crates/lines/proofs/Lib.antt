-- Proofs of the functions, and what they share.
pub mod Flags
