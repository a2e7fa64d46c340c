pub mod SecondKept
pub mod Check
pub mod LabelsStored
