-- The engine's state as words, which engines have words that lead back to them, and the calls on words.
pub mod Words
pub mod Typed
pub mod Calls
-- How the code goes about it; no contract that a host sees names these. Put and Held: pieces of words. Opens: the fetch that a step leaves open. Worked, Came: what a match, a road and
-- an answer leave.
pub mod Put
pub mod Held
pub mod Opens
pub mod Worked
pub mod Came
