-- What the rows hold once some of the pieces are made, and that those of a good list can be made.
pub mod Below
pub mod Coded
pub mod Making
pub mod Given
