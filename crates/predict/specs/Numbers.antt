-- The number of a road, 0 where it is no refusal, in the table of include/terrain.h. A tile that is needed is 5, with its key; a start whose tile is missing or
-- of another id is 6.
use Rattle.std.specs.Prelude.{ℕ, Option, Some, None, Result, Ok, Err}
use Rattle.refusal.specs.Refusal.{number_of}
use Rattle.refusal.specs.declared.Refusal.{Refusal}
use Rattle.pack.specs.declared.TileKey.{TileKey}
use Rattle.predict.specs.declared.Outcome.{Outcome}

abbrev pub number_of_outcome : Result Outcome Refusal → ℕ
number_of_outcome (Ok (Outcome.Road prediction)) = 0
number_of_outcome (Ok (Outcome.Need key)) = 5
number_of_outcome (Ok Outcome.Rematch) = 6
number_of_outcome (Err e) = number_of e

-- the key beside 5
abbrev pub key_of_outcome : Result Outcome Refusal → Option TileKey
key_of_outcome (Ok (Outcome.Road prediction)) = None
key_of_outcome (Ok (Outcome.Need key)) = Some key
key_of_outcome (Ok Outcome.Rematch) = None
key_of_outcome (Err e) = None
