-- Laws of page runs, for callers to cite, and the turns of the loops over pages.
-- Below: cases on two numbers, a test of every number below a bound. RunLaws: the test is the facts, and what they tell. PassLaws: the
-- pass that `runs_ok` makes answers the test. FillLaws: a stretch of a list set to one value. Range: a change in a range that no link
-- crosses. EvictLaws: evicting and placing. Turns: their loops. VictimLaws: the victim is the oldest and the first such. BeginLaws: a load
-- begun.
pub mod Below
pub mod RunLaws
pub mod PassLaws
pub mod FillLaws
pub mod Range
pub mod EvictLaws
pub mod Turns
pub mod VictimLaws
pub mod BeginLaws
-- Laws of the cache, for its proofs and for callers to cite.
-- SearchLaws: the lowest number below a bound that has a property. LookLaws: lookups change clock and ages alone, and all agree.
pub mod SearchLaws
pub mod LookLaws
-- Laws of loads, for the proofs of this crate and for callers to cite.
-- StepLaws: a read of a lent pack, an entry's bytes. FromLaws: a step over a lent pack is `fetch`, then `load`.
-- UnreadLaws: a step without a read. EndingLaws: what the last chunk leaves, part by part.
pub mod StepLaws
pub mod FromLaws
pub mod UnreadLaws
pub mod EndingLaws
-- Laws of the lookups of one call, for callers to cite. LooksLaws: what stands at each place of the numbers that are carried. ReaderLaws: they
-- stand for the cache and the keys found.
pub mod LooksLaws
pub mod ReaderLaws
