-- The number of a match, 0 where it is no refusal, in the table of include/terrain.h. A tile that is needed is 5, with its key. Of the other answers the number is
-- `number_of_result` of crate refusal.
use Rattle.std.specs.Prelude.{ℕ, Option, Some, None, Result, Ok, Err}
use Rattle.refusal.specs.Refusal.{number_of}
use Rattle.refusal.specs.declared.Refusal.{Refusal}
use Rattle.pack.specs.declared.TileKey.{TileKey}
use Rattle.matcher.specs.declared.Outcome.{Outcome}

abbrev pub number_of_outcome : Result Outcome Refusal → ℕ
number_of_outcome (Ok (Outcome.Found found)) = 0
number_of_outcome (Ok Outcome.Nothing) = 0
number_of_outcome (Ok (Outcome.Need key)) = 5
number_of_outcome (Err e) = number_of e

-- the key beside 5
abbrev pub key_of_outcome : Result Outcome Refusal → Option TileKey
key_of_outcome (Ok (Outcome.Found found)) = None
key_of_outcome (Ok Outcome.Nothing) = None
key_of_outcome (Ok (Outcome.Need key)) = Some key
key_of_outcome (Err e) = None
