-- The definitions that the contracts of `num` cite, a file for each module of src/; and Fold, a loop by index, for the crates above.
pub mod Cast
pub mod Convert
pub mod Order
pub mod Root
pub mod Fold
