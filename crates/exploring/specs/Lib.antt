-- The states of a table, found one after the other: which words are taken as one, and what is kept of what was found.
-- In the order of reading.
pub mod Keys
pub mod KeysLaws
pub mod LeafStarts
pub mod MaskedWords
pub mod Room
pub mod RoomLaws
pub mod FindingStates
pub mod Keeping
pub mod Leads
pub mod Steps
