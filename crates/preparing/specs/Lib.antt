-- Deciding on a list and making its rows, also for a call with class records.
pub mod Made
pub mod MadeFor
