-- A sweep: where parts and child pieces stand, what passing, visiting and leaving out make of the words, two sweeps.
pub mod Swept
mod PartPlaces
pub mod Passing
pub mod ClosedFromState
pub mod Visiting
mod Settling
pub mod RunOfChildren
mod GoneThrough
mod Idle
mod RowsFrom
pub mod Zeros
pub mod Sweeping
pub mod Twice
pub mod Simulated
