pub mod DrawnLaws
pub mod SameLanguage
