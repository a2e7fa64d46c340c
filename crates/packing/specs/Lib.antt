-- How the row of a piece is made of its codes: the masks, a byte for each state, and the row of both.
pub mod Masks
pub mod StateBytes
pub mod Packing
