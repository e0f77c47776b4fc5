-- What a call from C means.
pub mod Foreign
