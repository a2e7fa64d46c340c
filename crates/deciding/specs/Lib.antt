-- Whether a lent list is good, and for a tree with which counts.
pub mod Judged
pub mod LabelsTaken
pub mod DecideLaws
pub mod NotGood
