-- The laws that the proofs of `profile_text` share: writers and decimal numbers, whole metres, heights in their order, and the printed page.
pub mod Laws
pub mod Rounding
pub mod Order
pub mod Pages
