-- What a row's fields promise.
pub mod Number
