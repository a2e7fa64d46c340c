-- How a tree is cut from its labels: the seats of its records, and what is measured of each from the leaves up.
pub mod Seats
pub mod SeatsLaws
pub mod Gathered
pub mod GatheredLaws
pub mod SeatRecords
pub mod Measured
pub mod MeasuredLaws
