-- What reading an expression answers, and what it writes: the records of its tree and its class records.
pub mod PlacesIn
pub mod PlacesInLaws
pub mod Answer
pub mod SecondAnswer
pub mod Kept
pub mod SecondKept
pub mod Placing
pub mod Store
pub mod LabelsStored
pub mod Check
pub mod TooLarge
pub mod Exactly
