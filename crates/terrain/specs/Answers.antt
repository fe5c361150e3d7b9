-- How the leaves' answers that are an enum or a truth value cross to C.
use Rattle.refusal.specs.Refusal.{number_of}
use Rattle.refusal.specs.declared.Refusal.{Refusal}
use Rattle.std.specs.Prelude.{Ok, Err, Float, Result, ℕ, Bool, true, false, ℤ, pos, negsuc}
use Rattle.std.specs.declared.cmp.Ordering.{Ordering}
use Rattle.std.specs.declared.cmp.Ordering.TheVariants.{Less, Equal, Greater}
use Rattle.terrain.specs.Records.{zero}
use Rattle.terrain.specs.declared.leaves.TerrainDegrees.{TerrainDegrees}

abbrev pub sign : Ordering → ℤ
sign Less = negsuc 0
sign Equal = pos 0
sign Greater = pos 1

abbrev pub flag : Bool → ℕ
flag true = 1
flag false = 0

-- a bearing and the number of its refusal, 0 where there is none
abbrev pub degrees_out : Result Float Refusal → TerrainDegrees
degrees_out (Ok d) = record { number = 0; degrees = d }
degrees_out (Err e) = record { number = number_of e; degrees = zero }
