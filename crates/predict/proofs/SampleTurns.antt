-- The samples one by one, on the definitions. The turns of `sloped` and `level`: out of room, past the distance, and one sample more, each one step
-- of the recursion. And that `pushed` writes what they do (`push_slope`, `push_level`): its heights lie on a straight line, or are all one, by
-- whether the road point lies beyond the last one. Before these, that the cast holds a height by itself (`held_is`). Assumes nothing.
use Prim.Native.Nat.{ℕ, zero, suc, ◌+◌}
use mathlib.Core.Path.{◌≡◌, refl}
use mathlib.Core.Bool.{Bool, true, false, cond}
use mathlib.Core.List.{List}
use native.Mathlib.Omega.{arith}
use lib.IntN.{ℤ, ◌-ℤ◌}
use lib.Ieee.{Float, binary32, of_int, to_signed, sub, neg, lt}
use lib.ListN.{set}
use Rattle.num.proofs.CastLaws.{signed_clamped}
use Rattle.predict.specs.declared.Mark.{Mark}
use Rattle.predict.specs.Samples.{whole, sample_at, height_at, Pushed, stopped, push_from, Filled, filled, held, slope}

-- the ends that a height is clamped to are those of 16 bits
pub held_is : (value : Float) → held value ≡ to_signed 15 value
unfolding of_int neg
held_is value = signed_clamped 15 value

-- one height at every distance
abbrev pub always : ℤ → Float → ℤ
always height at = height

module _ (f : Float → ℤ) (d : Float) where
  pub fill_out : (room len : ℕ) (hs : List ℤ) → room ≡ 0 → filled f room d len hs ≡ record { len = len; heights = hs }
  unfolding filled
  fill_out zero len hs e = refl
  fill_out (suc room) len hs e = absurd (omega arith)

  pub fill_stop : (room len : ℕ) (hs : List ℤ) → lt d (sample_at len) ≡ true → filled f room d len hs ≡ record { len = len; heights = hs }
  unfolding filled
  fill_stop zero len hs e = refl
  fill_stop (suc room) len hs e = rw e

  pub fill_on : (more room len : ℕ) (hs : List ℤ) → more + 1 ≡ room → lt d (sample_at len) ≡ false
      → filled f more d (len + 1) (set hs len (f (sample_at len))) ≡ filled f room d len hs
  unfolding filled
  fill_on more zero len hs e r = absurd (omega arith)
  fill_on more (suc room) len hs e r = let same : more ≡ room = omega arith in rw (r, same)

module _ (m : Mark) (d : Float) (z : ℤ) where
  pub push_stop : (room len : ℕ) (hs : List ℤ) → lt d (sample_at len) ≡ true → push_from room m d z len hs ≡ stopped len d z hs
  unfolding push_from
  push_stop zero len hs e = refl
  push_stop (suc room) len hs e = rw e

  abbrev stopped_at : Filled → Pushed
  stopped_at x = stopped x.len d z x.heights

  push_fills : (f : Float → ℤ) → ((at : Float) → height_at m at d z ≡ f at) → (room len : ℕ) (hs : List ℤ)
      → push_from room m d z len hs ≡ stopped_at (filled f room d len hs)
  unfolding push_from filled
  push_fills f same zero len hs = refl
  push_fills f same (suc room) len hs =
      rw (same (sample_at len)) (by (lt d (sample_at len)) _ _ (push_fills f same room (len + 1) (set hs len (f (sample_at len)))))
    where
      by : (past : Bool) (x : Pushed) (y : Filled) → x ≡ stopped_at y
          → cond past (stopped len d z hs) x ≡ stopped_at (cond past (record { len = len; heights = hs }) y)
      by true x y e = refl
      by false x y e = e

  abbrev span : Float
  span = sub binary32 d m.distance

  abbrev line : Float → ℤ
  line = slope (of_int binary32 m.z) (of_int binary32 (z -ℤ m.z)) m.distance span

  abbrev flat : Float → ℤ
  flat = always (held (of_int binary32 z))

  height_slope : lt (whole 0) span ≡ true → (at : Float) → height_at m at d z ≡ line at
  unfolding height_at
  height_slope e at = rw e

  height_level : lt (whole 0) span ≡ false → (at : Float) → height_at m at d z ≡ flat at
  unfolding height_at
  height_level e at = rw e

  pub push_slope : lt (whole 0) span ≡ true → (room len : ℕ) (hs : List ℤ) → push_from room m d z len hs ≡ stopped_at (filled line room d len hs)
  push_slope e = push_fills line (height_slope e)

  pub push_level : lt (whole 0) span ≡ false → (room len : ℕ) (hs : List ℤ) → push_from room m d z len hs ≡ stopped_at (filled flat room d len hs)
  push_level e = push_fills flat (height_level e)
