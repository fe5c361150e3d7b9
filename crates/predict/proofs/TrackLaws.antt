-- The highest number below a bound that has a property, found from above: the end of the loop, its hit and its turn, and that a number found
-- lies below the bound. Each is one step of the recursion.
use Rattle.std.specs.Prelude.{Some, None}
use Prim.Native.Nat.{ℕ, zero, suc, ◌+◌, ◌<◌}
use mathlib.Core.Path.{◌≡◌, refl}
use mathlib.Core.Bool.{Bool, true, false, cond}
use native.Mathlib.Omega.{arith}
use Rattle.predict.specs.Incoming.{highest}

found_same : {i j : ℕ} → Some i ≡ Some j → i ≡ j
found_same e = cc

module _ (p : ℕ → Bool) where
  pub highest_none : (n : ℕ) → n ≡ 0 → highest p n ≡ None
  unfolding highest
  highest_none zero e = refl
  highest_none (suc n) e = absurd (omega arith)

  pub highest_hit : (i n : ℕ) → i + 1 ≡ n → p i ≡ true → highest p n ≡ Some i
  unfolding highest
  highest_hit i zero e hit = absurd (omega arith)
  highest_hit i (suc n) e hit = let same : n ≡ i = omega arith in rw (same, hit)

  pub highest_miss : (i n : ℕ) → i + 1 ≡ n → p i ≡ false → highest p i ≡ highest p n
  unfolding highest
  highest_miss i zero e miss = absurd (omega arith)
  highest_miss i (suc n) e miss = let same : n ≡ i = omega arith in rw (same, miss)

  pub highest_below : (n i : ℕ) → highest p n ≡ Some i → i < n
  unfolding highest
  highest_below zero i e = let z : ◌≡◌ {A = ℕ} 0 1 = cc in absurd (omega arith)
  highest_below (suc n) i e = by (p n) (λ (f : highest p n ≡ Some i). highest_below n i f) e
    where
      by : (t : Bool) → (highest p n ≡ Some i → i < n) → cond t (Some n) (highest p n) ≡ Some i → i < suc n
      by true more e = let same : n ≡ i = found_same e in omega arith
      by false more e = let below : i < n = more e in omega arith
