-- A candidate that is written into its place, or dropped where it has none, is kept as `Keeping.insert` keeps it (`insert-written`, `insert_dropped`);
-- and the cheapest place by place is `Choose.least_of` (`least_next`), the cheapest rival `Settle.runner_up` (`runner_next`).
use Rattle.std.specs.Prelude.{Option, None}
use Prim.Native.Nat.{ℕ, ◌+◌, ◌<◌, ◌≤◌}
use mathlib.Core.Path.{◌≡◌, refl, sym, ◌∙◌}
use mathlib.Core.Bool.{Bool, true, false, cond}
use native.Mathlib.Omega.{arith}
use lib.Dec.{ltb}
use lib.Ieee.{Float, inf, lt}
use lib.ListN.{length, get_or, set}
use lib.Seq.{set_out}
use borrow.Author.Tests.{ltb-true}
use Rattle.geo.specs.Flat.{whole}
use Rattle.num.proofs.FoldLaws.{up_start, up_turn}
use Rattle.matcher.specs.declared.Candidate.{Candidate}
use Rattle.matcher.specs.declared.Kept.{Kept}
use Rattle.matcher.specs.declared.Matched.{Matched}
use Rattle.matcher.specs.declared.choose.Which.{Which}
use Rattle.matcher.specs.declared.choose.Least.{Least}
use Rattle.matcher.specs.Keeping.{no_candidate, candidate_in, dearest_of, insert}
use Rattle.matcher.specs.Placing.{place_of, written}
use Rattle.matcher.specs.Choose.{least_step, least_to}
use Rattle.matcher.specs.Settle.{rival_step, runner_to}
use Rattle.matcher.proofs.KeepLaws.{at_any, placed, swapped}

-- ---- a candidate in its place

module _ (k : Kept) (c : Candidate) (size : length k.v ≡ 8) where
  pub insert-written : place_of k c.cost < 8 → written k (place_of k c.cost) c ≡ insert k c
  unfolding place_of insert
  insert-written = by (ltb k.len 8) (lt c.cost (dearest_of k).cost)
    where
      by : (t u : Bool) → cond t k.len (cond u (dearest_of k).at 8) < 8
          → record { v = set k.v (cond t k.len (cond u (dearest_of k).at 8)) c; len = cond t (k.len + 1) k.len }
          ≡ cond t (placed k c) (cond u (swapped k (dearest_of k).at c) k)
      by true u h = refl
      by false true h = refl
      by false false h = absurd (omega (arith, h))

  pub insert_dropped : 8 ≤ place_of k c.cost → k ≡ insert k c
  unfolding place_of insert
  insert_dropped = by (ltb k.len 8) (lt c.cost (dearest_of k).cost) refl
    where
      by : (t u : Bool) → ltb k.len 8 ≡ t → 8 ≤ cond t k.len (cond u (dearest_of k).at 8)
          → k ≡ cond t (placed k c) (cond u (swapped k (dearest_of k).at c) k)
      by true u e h = absurd (omega (arith, h, ltb-true k.len 8 e))
      by false true e h = rw (set_out k.v (dearest_of k).at c (omega (arith, h, size)))
      by false false e h = refl

-- ---- the cheapest, place by place

module _ (k : Kept) (which : Which) where
  pub least_start : (zero : Float) → zero ≡ whole 0 → record { at = None; cost = zero } ≡ least_to k which 0
  unfolding least_to
  least_start zero e = rw e (sym (up_start _ _))

  least_more : (i : ℕ) → least_to k which (i + 1) ≡ least_step (least_to k which i) k.len i (candidate_in k i) which
  unfolding least_to
  least_more i = up_turn _ _ i

  pub least_next : (i : ℕ) (l r : Least) (d : Candidate) → i < length k.v → r ≡ least_step l k.len i (get_or k.v i d) which
      → l ≡ least_to k which i → r ≡ least_to k which (i + 1)
  least_next i l r d h e is = e ∙ (rw (at_any k.v i d no_candidate h, is) (sym (least_more i)))

-- ---- the cheapest rival, place by place

module _ (k : Kept) (chosen : Matched) (left : Option Matched) where
  pub runner_start : (infinite : Float) → infinite ≡ inf false → infinite ≡ runner_to k chosen left 0
  unfolding runner_to
  runner_start infinite e = e ∙ sym (up_start _ _)

  runner_more : (i : ℕ) → runner_to k chosen left (i + 1) ≡ rival_step (runner_to k chosen left i) k.len i (candidate_in k i) chosen left
  unfolding runner_to
  runner_more i = up_turn _ _ i

  pub runner_next : (i : ℕ) (l r : Float) (d : Candidate) → i < length k.v → r ≡ rival_step l k.len i (get_or k.v i d) chosen left
      → l ≡ runner_to k chosen left i → r ≡ runner_to k chosen left (i + 1)
  runner_next i l r d h e is = e ∙ (rw (at_any k.v i d no_candidate h, is) (sym (runner_more i)))
