-- Demand 3 is not empty: a computed list.
pub mod Witness
