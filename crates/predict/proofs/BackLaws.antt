-- The points of a leg one after the other, back along the road just ridden: none is the start, one more is `back_step` as long as the road isn't
-- over, and then nothing changes any more. The idea: `backs_to` is a loop by index.
use Prim.Native.Nat.{ℕ, ◌+◌, ◌≤◌}
use mathlib.Core.Path.{◌≡◌, ◌∙◌}
use mathlib.Core.Bool.{true, false}
use mathlib.Core.List.{List}
use lib.IntN.{ℤ}
use lib.Ieee.{Float}
use Rattle.num.proofs.FoldLaws.{up_start, up_turn}
use Rattle.predict.specs.declared.outgoing.Leg.{Leg}
use Rattle.predict.specs.declared.Trip.{Trip}
use Rattle.predict.specs.declared.ridden.Back.{Back}
use Rattle.predict.specs.Ridden.{Backs, back_step, back_next, backs_to}
use Rattle.predict.proofs.Turns.{up_stays}

pub both : (x : Backs) (b : Back) (hs : List ℤ) → b ≡ x.back → hs ≡ x.heights → record { back = b; heights = hs } ≡ x
both x b hs e f = rw (e, f)

module _ (trip : Trip) (leg : Leg) (bs : List ℕ) (lon_um : ℕ) (reach : Float) (from : ℕ) (b : Backs) where
  pub backs_start : backs_to trip leg bs lon_um reach from b 0 ≡ b
  unfolding backs_to
  backs_start = up_start (back_next trip leg bs lon_um reach from) b

  pub backs_on : (n : ℕ) (x : Backs) → x ≡ backs_to trip leg bs lon_um reach from b n → x.back.over ≡ false
      → backs_to trip leg bs lon_um reach from b (n + 1) ≡ back_step trip leg bs lon_um reach x.back (from + n) x.heights
  unfolding backs_to
  backs_on n x same e = up_turn (back_next trip leg bs lon_um reach from) b n ∙ rw (← same, e)

  pub backs_over : (n m : ℕ) (x : Backs) → x ≡ backs_to trip leg bs lon_um reach from b n → x.back.over ≡ true → n ≤ m
      → backs_to trip leg bs lon_um reach from b m ≡ x
  unfolding backs_to
  backs_over n m x same e h = rw same (up_stays (back_next trip leg bs lon_um reach from) b n (λ (i : ℕ). rw (← same, e)) m h)
