-- Where a candidate is written among those kept, and how many they are then: this restates private code, and nothing public is stated by it. That a
-- candidate so written is `Keeping.insert`'s is proved (`PlaceLaws`).
use Rattle.std.specs.Prelude.{ℕ, ◌+◌, cond, ltb, Float, set}
use Rattle.std.specs.Float.Ieee.{lt}
use Rattle.matcher.specs.declared.Candidate.{Candidate}
use Rattle.matcher.specs.declared.Kept.{Kept}
use Rattle.matcher.specs.Keeping.{dearest_of}

-- a free place, or that of the dearest, if the cost is less; 8 where there is none
unfoldable pub place_of : Kept → Float → ℕ
place_of k cost = cond (ltb k.len 8) k.len (cond (lt cost (dearest_of k).cost) (dearest_of k).at 8)

abbrev pub len_after : ℕ → ℕ
len_after n = cond (ltb n 8) (n + 1) n

-- the candidate in a place
abbrev pub written : Kept → ℕ → Candidate → Kept
written k at c = record { v = set k.v at c; len = len_after k.len }
