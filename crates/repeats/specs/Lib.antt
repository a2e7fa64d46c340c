-- The labels of the trees that `+`, `?` and a count stand for.
pub mod Noted
pub mod Labelled
pub mod LabelledLaws
