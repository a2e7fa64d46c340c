-- What the answers of this crate share.
pub mod Asked
