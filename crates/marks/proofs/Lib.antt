pub mod AlongLaws
pub mod WorksLaws
pub mod Unique
pub mod ButPlaces
pub mod StepsEachLaws
