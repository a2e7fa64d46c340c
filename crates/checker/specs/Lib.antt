-- What an expression comes to: the tree that its signs stand for, the tree of its records with its classes, and the
-- counts that a check answers.
pub mod Drawn
pub mod Expanded
pub mod ExpandedLaws
pub mod OneShape
pub mod AlikeMeasured
pub mod Relabelled
pub mod DrawnLaws
pub mod SameLanguage
pub mod Checked
pub mod ClassStore
pub mod Counted
