-- How the writer's answers cross to C: the refusal's number, 0 where there is none, and how long the tile or the pack is.
use Rattle.std.specs.Prelude.{ℕ, Result, Ok, Err}
use Rattle.refusal.specs.declared.Refusal.{Refusal}
use Rattle.refusal.specs.Refusal.{number_of}
use Rattle.terrain.specs.declared.write.TerrainWritten.{TerrainWritten}

abbrev pub written_out : Result ℕ Refusal → TerrainWritten
written_out (Ok n) = record { number = 0; length = n }
written_out (Err e) = record { number = number_of e; length = 0 }
