-- How records and answers cross to C; the state in words, and the calls on it.
pub mod Records
pub mod Answers
pub mod Figures
pub mod Format
pub mod Transects
pub mod Page
pub mod Write
pub mod Host
pub mod Parts
pub mod Roads
