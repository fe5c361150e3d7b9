-- A stretch of a list set to one value (`fill`): its length, its turns, that it does nothing past the end, and its elements by index.
-- `Out a e i` says that i lies before a or from e on.
use Rattle.std.proofs.Common.{◌≡◌, ℕ, zero, suc, ◌+◌, ◌-◌, ◌<◌, ◌≤◌, ◌⊎◌, List, length, get_or, set, refl, ◌∙◌, inl, inr, ⊎_elim, arith, length-set, get_or-set_other, get_or-set_same}
use lib.Seq.{set_out}
use Rattle.cache.specs.Evict.{fill}
use Rattle.cache.proofs.Below.{below_or, same_or}

abbrev pub Out : ℕ → ℕ → ℕ → Type 0
Out a e i = (i < a) ⊎ (e ≤ i)

pub out_or : (a e i : ℕ) → Out a e i ⊎ ((a ≤ i) × (i < e))
out_or a e i = ⊎_elim (λ h. inl (inl h)) (λ h. ⊎_elim (λ k. inr (h, k)) (λ k. inl (inr k)) (below_or i e)) (below_or i a)

pub out : (a e i : ℕ) → (a ≤ i → i < e → ⊥) → Out a e i
out a e i never = ⊎_elim (λ o. o) (λ h. absurd (never h.0 h.1)) (out_or a e i)

pub not_out : {a e i : ℕ} → Out a e i → a ≤ i → i < e → ⊥
not_out (inl h) p q = omega arith
not_out (inr h) p q = omega arith

-- ---- as a loop

pub less_one : (n : ℕ) → suc n - 1 ≡ n
less_one n = omega arith

module _ {A : Type 0} (v : A) where
  pub fill-length : (n at : ℕ) (l : List A) → length (fill n at v l) ≡ length l
  unfolding fill
  fill-length zero at l = refl
  fill-length (suc n) at l = fill-length n (at + 1) (set l at v) ∙ length-set l at v

  pub fill_turn : (n at : ℕ) (l : List A) → 0 < n → fill n at v l ≡ fill (n - 1) (at + 1) v (set l at v)
  unfolding fill
  fill_turn zero at l h = absurd (omega arith)
  fill_turn (suc n) at l h = rw (less_one n)

  pub fill_none : (n at : ℕ) (l : List A) → n ≤ 0 → fill n at v l ≡ l
  unfolding fill
  fill_none zero at l h = refl
  fill_none (suc n) at l h = absurd (omega arith)

  pub fill_past : (n at : ℕ) (l : List A) → length l ≤ at → fill n at v l ≡ l
  unfolding fill
  fill_past zero at l h = refl
  fill_past (suc n) at l h = fill_past n (at + 1) (set l at v) (rw length-set (omega arith)) ∙ set_out l at v h

-- ---- by index

module _ {A : Type 0} (v d : A) where
  pub fill_out : (n at : ℕ) (l : List A) (i : ℕ) → Out at (at + n) i → get_or (fill n at v l) i d ≡ get_or l i d
  unfolding fill
  fill_out zero at l i o = refl
  fill_out (suc n) at l i o = fill_out n (at + 1) (set l at v) i (next o) ∙ get_or-set_other l at i v d (λ (e : i ≡ at). not_out o (omega arith) (omega arith))
    where
      next : Out at (at + suc n) i → Out (at + 1) (at + 1 + n) i
      next (inl h) = inl (omega arith)
      next (inr h) = inr (omega arith)

  pub fill_in : (n at : ℕ) (l : List A) (i : ℕ) → at ≤ i → i < at + n → i < length l → get_or (fill n at v l) i d ≡ v
  unfolding fill
  fill_in zero at l i h k b = absurd (omega arith)
  fill_in (suc n) at l i h k b =
      ⊎_elim
      (λ e. fill_out n (at + 1) (set l at v) i (inl (omega arith)) ∙ rw e (get_or-set_same l at v d (omega arith)))
      (λ e. fill_in n (at + 1) (set l at v) i (omega (arith, e)) (omega arith) (rw length-set b))
      (same_or i at)
