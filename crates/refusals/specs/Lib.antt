-- A call and its causes of refusal; the table.
pub mod Causes
pub mod Refusals
