-- Running a table of steps: what a table says of a text, the numbers of the answer, and what follows.
pub mod Runs
pub mod Answer
pub mod RunLaws
-- tables and texts computed
pub mod Examples
