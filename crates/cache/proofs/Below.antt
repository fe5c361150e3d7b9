-- Cases on two numbers, and the laws of `all_below`: both ways between the test and each number.
use Rattle.std.proofs.Common.{◌≡◌, ℕ, zero, suc, ◌<◌, ◌≤◌, Bool, true, false, eqb, ltb, ◌⊎◌, refl, inl, inr, arith, ltb-false, ltb-true, eqb-true}
use borrow.Author.Tests.{eqb-false}
pub use Rattle.tile.proofs.Laws.{and_left, and_right, all_at}
use Rattle.cache.specs.Runs.{all_below}

-- ---- cases

pub below_or : (a b : ℕ) → (a < b) ⊎ (b ≤ a)
below_or a b = by (ltb a b) refl
  where
    by : (t : Bool) → ltb a b ≡ t → (a < b) ⊎ (b ≤ a)
    by true e = inl (ltb-true a b e)
    by false e = inr (ltb-false a b e)

pub same_or : (a b : ℕ) → (a ≡ b) ⊎ (a ≡ b → ⊥)
same_or a b = by (eqb a b) refl
  where
    by : (t : Bool) → eqb a b ≡ t → (a ≡ b) ⊎ (a ≡ b → ⊥)
    by true e = inl (eqb-true a b e)
    by false e = inr (eqb-false a b e)

-- ---- every number below

module _ (p : ℕ → Bool) where
  -- each below n has it
  pub all_from : (n : ℕ) → ((i : ℕ) → i < n → p i ≡ true) → all_below p n ≡ true
  unfolding all_below
  all_from zero f = refl
  all_from (suc n) f = rw (all_from n (λ (i : ℕ) (h : i < n). f i (omega arith)), f n (omega arith))
