-- The list of a tree: the pieces, handed down from the root, the records, and that no other tree has the same list.
pub mod SeatRecordsLaws
pub mod Handed
pub mod HandedLaws
pub mod Recording
pub mod RecordingLaws
pub mod ClassNumbers
pub mod Readback
pub mod NumbersShown
