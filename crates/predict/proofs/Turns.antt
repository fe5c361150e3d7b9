-- A loop whose step does nothing any more stays as it is. The idea: induction on the number of turns left.
use Prim.Native.Nat.{ℕ, zero, suc, ◌+◌, ◌-◌, ◌≤◌}
use mathlib.Core.Path.{◌≡◌, ◌∙◌}
use native.Mathlib.Omega.{arith}
use Rattle.num.specs.Fold.{up_to}
use Rattle.num.proofs.FoldLaws.{up_turn}

module _ {A : Type 0} (step : A → ℕ → A) (start : A) (n : ℕ) (still : (i : ℕ) → step (up_to step start n) i ≡ up_to step start n) where
  up_rests : (more : ℕ) → up_to step start (n + more) ≡ up_to step start n
  up_rests zero = let same : n + 0 ≡ n = omega arith in rw same
  up_rests (suc more) =
      let next : n + suc more ≡ n + more + 1 = omega arith in
      rw next (up_turn step start (n + more) ∙ rw (up_rests more) (still (n + more)))

  pub up_stays : (m : ℕ) → n ≤ m → up_to step start m ≡ up_to step start n
  up_stays m h = let split : m ≡ n + (m - n) = omega arith in rw split (up_rests (m - n))
