-- Texts by a table of steps or by marks: what a table must be for that.
pub mod TableChoice
