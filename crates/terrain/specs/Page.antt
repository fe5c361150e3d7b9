-- How the answer of the printed page crosses to C: the refusal's number, 0 where there is none, and the page's length.
use Rattle.std.specs.Prelude.{ℕ, Result, Ok, Err}
use Rattle.refusal.specs.declared.Refusal.{Refusal}
use Rattle.refusal.specs.Refusal.{number_of}
use Rattle.terrain.specs.declared.page.TerrainPrinted.{TerrainPrinted}

abbrev pub printed_out : Result ℕ Refusal → TerrainPrinted
printed_out (Ok n) = record { number = 0; length = n }
printed_out (Err e) = record { number = number_of e; length = 0 }
