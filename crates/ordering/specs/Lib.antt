-- How many trees are left after some labels: one at the end of one tree's.
pub mod Depth
pub mod DepthLaws
