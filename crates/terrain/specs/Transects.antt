-- How the crossing of a transect crosses to C: which meeting segment is named stays open, so that some answer is promised that `Crosses` allows, and the struct that is made of it.
use Rattle.refusal.specs.Refusal.{number_of}
use Rattle.refusal.specs.declared.Refusal.{Refusal}
use Rattle.std.specs.Prelude.{Option, Some, None, Result, Ok, Err, ℕ, ◌≡◌, List}
use Rattle.pack.specs.declared.Header.{Header}
use Rattle.pack.specs.declared.TileKey.{TileKey}
use Rattle.geo.specs.declared.Point.{Point}
use Rattle.crossing.specs.Crossing.{Crosses}
use Rattle.terrain.specs.declared.transect.TerrainCrossed.{TerrainCrossed}

abbrev pub crossed_out : Result (Option (ℕ × ℕ)) Refusal → TerrainCrossed
crossed_out (Ok (Some (edge, segment))) = record { number = 0; edge = edge; segment = segment }
crossed_out (Ok None) = record { number = 256; edge = 0; segment = 0 }
crossed_out (Err n) = record { number = number_of n; edge = 0; segment = 0 }

pub record Told (first second : Point) (h : Header) (k : TileKey) (bs : List ℕ) (told : TerrainCrossed) : Type 0 where
  pub answer : Result (Option (ℕ × ℕ)) Refusal
  pub crosses : Crosses first second h k bs answer
  pub told_is : told ≡ crossed_out answer
