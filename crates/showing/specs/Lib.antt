-- How a refused expression is shown.
-- First the definitions that the contracts rest on.
pub mod Shown
pub mod CutShort
pub mod Refusal
-- some refusals as they are shown
pub mod Examples
-- how the code comes to its answer, and how long a line can be
pub mod ShownLaws
pub mod CutShortLaws
pub mod WithinLent
