-- A loop over the numbers below a bound: its start and its turn, what every step keeps, and when two loops agree. The idea: induction on the
-- bound.
use Rattle.std.proofs.Common.{◌≡◌, ℕ, zero, suc, ◌+◌, ◌<◌, refl, add-one, arith}
use Rattle.num.specs.Fold.{up_to}

module _ {A : Type 0} (step : A → ℕ → A) (start : A) where
  pub up_start : up_to step start 0 ≡ start
  unfolding up_to
  up_start = refl

  pub up_turn : (i : ℕ) → up_to step start (i + 1) ≡ step (up_to step start i) i
  unfolding up_to
  up_turn i = rw add-one

  -- what holds of the start and is kept by each step below the bound
  pub up_keeps : (P : A → Type 0) (n : ℕ) → P start → ((i : ℕ) → i < n → (a : A) → P a → P (step a i)) → P (up_to step start n)
  unfolding up_to
  up_keeps P zero first keeps = first
  up_keeps P (suc n) first keeps =
      keeps n (omega arith) (up_to step start n) (up_keeps P n first (λ (i : ℕ) (h : i < n). keeps i (omega arith)))

-- what holds after a step held before it, and lets the other loop take the same step: so the two agree as long as it holds
pub up_agrees : {A : Type 0} (one two : A → ℕ → A) (start : A) (P : A → Type 0)
    → ((a : A) (i : ℕ) → P (one a i) → P a × (two a i ≡ one a i)) → (n : ℕ) → P (up_to one start n) → up_to two start n ≡ up_to one start n
unfolding up_to
up_agrees one two start P same zero h = refl
up_agrees one two start P same (suc n) h =
    let s : P (up_to one start n) × (two (up_to one start n) n ≡ one (up_to one start n) n) = same (up_to one start n) n h in
    rw (up_agrees one two start P same n s.0) s.1
