-- The number of a step of a load, in the table of include/terrain.h: one that failed has the number of its read or entry (1, 2 or 4), a refused one its
-- own, any other 0. Of the other answers the number is `number_of_result` of crate refusal.
use Rattle.std.specs.Prelude.{ℕ, Result, Ok, Err}
use Rattle.refusal.specs.Refusal.{number_of}
use Rattle.refusal.specs.declared.Refusal.{Refusal}
use Rattle.cache.specs.declared.Progress.{Progress}

abbrev pub number_of_progress : Result Progress Refusal → ℕ
number_of_progress (Ok Progress.Done) = 0
number_of_progress (Ok Progress.More) = 0
number_of_progress (Ok (Progress.Failed e)) = number_of e
number_of_progress (Err e) = number_of e
