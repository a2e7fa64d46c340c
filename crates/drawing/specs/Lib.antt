-- A rule and its records drawn.
-- First the definitions that the contracts rest on.
pub mod Marks
pub mod Drawing
-- how the code comes to its answer, and how long a line can be
pub mod DepthLaws
pub mod MarksLaws
pub mod DrawingLaws
