-- Looking up directly in a pack that was written.
pub mod Written
