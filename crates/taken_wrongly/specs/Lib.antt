-- What is easily taken wrongly.
pub mod Cases
