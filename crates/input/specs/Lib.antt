-- The lines of an input: first the definition, then where they end.
pub mod Part
pub mod Lines
pub mod Ends
pub mod EndLaws
pub mod Left
pub mod First
