pub mod Complete
pub mod Sound
pub mod Agree
pub mod PlacesInside
pub mod ReadingLaws
