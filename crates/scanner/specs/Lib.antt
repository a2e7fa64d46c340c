-- What reading a whole expression gives.
pub mod Expression
pub mod Rounds
pub mod RoundsLaws
