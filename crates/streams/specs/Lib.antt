-- What reading a whole input promises.
pub mod ReadWithin
