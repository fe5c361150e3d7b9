-- What a view rests on.
pub mod Laws
