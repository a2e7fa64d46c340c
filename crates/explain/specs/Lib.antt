-- What the program's own functions ask and promise.
pub mod Space
