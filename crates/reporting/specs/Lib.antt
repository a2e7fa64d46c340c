-- The output of `pick` for an input, from its lines.
-- First the definition.
pub mod Print
-- by the input's length, and how long it can be
pub mod OutputCases
pub mod OutputBound
