-- The lowest number below a bound that has p: the turns of a loop that looks for it, whose invariant is that none was found so far, and
-- what an answer tells.
use Rattle.std.specs.Prelude.{Option, Some, None}
use Rattle.std.specs.Prelude.{is_some}
use Rattle.std.proofs.Common.{◌≡◌, ℕ, zero, suc, ◌+◌, ◌<◌, ◌≤◌, Bool, true, false, cond, ◌⊎◌, sym, refl, ap, ◌∙◌, inl, inr, ⊎_elim, add-one, arith}
use Rattle.cache.proofs.Below.{same_or}
use Rattle.cache.specs.Search.{or_else, lowest}

-- one number more: it was found before, or it is the last
found_at : (x : Option ℕ) (t : Bool) (n i : ℕ) → or_else x (cond t (Some n) None) ≡ Some i
    → (x ≡ Some i) ⊎ ((x ≡ None) × ((t ≡ true) × (i ≡ n)))
found_at (Some j) t n i e = inl e
found_at None true n i e = inr (refl, (refl, cc))
found_at None false n i e = let z : ◌≡◌ {A = ℕ} 0 1 = cc in absurd (omega arith)

found_none : (x : Option ℕ) (t : Bool) (n : ℕ) → or_else x (cond t (Some n) None) ≡ None → (x ≡ None) × (t ≡ false)
found_none None false n e = (refl, refl)
found_none None true n e = let z : ◌≡◌ {A = ℕ} 0 1 = cc in absurd (omega arith)
found_none (Some j) t n e = let z : ◌≡◌ {A = ℕ} 0 1 = cc in absurd (omega arith)

or_nothing : (x : Option ℕ) → or_else x None ≡ x
or_nothing (Some i) = refl
or_nothing None = refl

-- two tests that agree on every number below the bound find the same
pub lowest_same : (p q : ℕ → Bool) (n : ℕ) → ((i : ℕ) → i < n → p i ≡ q i) → lowest p n ≡ lowest q n
unfolding lowest
lowest_same p q zero f = refl
lowest_same p q (suc n) f = rw (lowest_same p q n (λ (i : ℕ) (h : i < n). f i (omega (arith, h))), f n (omega arith))

module _ (p : ℕ → Bool) where
  -- ---- the turns of a loop

  pub lowest_start : lowest p 0 ≡ None
  unfolding lowest
  lowest_start = refl

  pub lowest_hit : (i n : ℕ) → i < n → lowest p i ≡ None → p i ≡ true → lowest p n ≡ Some i
  unfolding lowest
  lowest_hit i zero h e t = absurd (omega arith)
  lowest_hit i (suc n) h e t =
      ⊎_elim
      (λ (q : i ≡ n). rw (← q, e, t))
      (λ q. rw (lowest_hit i n (omega (arith, q)) e t))
      (same_or i n)

  pub lowest_miss : (i : ℕ) → lowest p i ≡ None → p i ≡ false → lowest p (i + 1) ≡ None
  unfolding lowest
  lowest_miss i e t = rw (add-one, e, t)

  -- none from i on has it
  pub lowest_past : (i n : ℕ) → i ≤ n → ((k : ℕ) → i ≤ k → p k ≡ false) → lowest p i ≡ None → lowest p n ≡ None
  unfolding lowest
  lowest_past i zero h none e = refl
  lowest_past i (suc n) h none e =
      ⊎_elim
      (λ (q : i ≡ suc n). rw q at e)
      (λ q. rw (lowest_past i n (omega (arith, q)) none e, none n (omega (arith, q))))
      (same_or i (suc n))

  -- the numbers from i on change nothing where none of them has it
  pub lowest_end : (i n : ℕ) → i ≤ n → ((k : ℕ) → i ≤ k → p k ≡ false) → lowest p n ≡ lowest p i
  unfolding lowest
  lowest_end i zero h none = let q : 0 ≡ i = omega (arith, h) in ap (lowest p) q
  lowest_end i (suc n) h none =
      ⊎_elim
      (λ (q : i ≡ suc n). ap (lowest p) (sym q))
      (λ q. rw (none n (omega (arith, q, h))) (or_nothing (lowest p n) ∙ lowest_end i n (omega (arith, q, h)) none))
      (same_or i (suc n))

  -- ---- what an answer tells

  -- the number found lies below the bound and has it
  pub lowest_at : (n i : ℕ) → lowest p n ≡ Some i → (i < n) × (p i ≡ true)
  unfolding lowest
  lowest_at zero i e = let z : ◌≡◌ {A = ℕ} 0 1 = cc in absurd (omega arith)
  lowest_at (suc n) i e =
      ⊎_elim
      (λ q. let h : (i < n) × (p i ≡ true) = lowest_at n i q in (omega (arith, h.0), h.1))
      (λ q. (omega (arith, q.1.1), ap p q.1.1 ∙ q.1.0))
      (found_at (lowest p n) (p n) n i e)

  -- below it nothing is found, so by `lowest_none` none has it
  pub lowest_before : (n i : ℕ) → lowest p n ≡ Some i → lowest p i ≡ None
  unfolding lowest
  lowest_before zero i e = let z : ◌≡◌ {A = ℕ} 0 1 = cc in absurd (omega arith)
  lowest_before (suc n) i e =
      ⊎_elim (λ q. lowest_before n i q) (λ q. rw q.1.1 q.0) (found_at (lowest p n) (p n) n i e)

  -- nothing found: none below the bound has it
  pub lowest_none : (n : ℕ) → lowest p n ≡ None → (i : ℕ) → i < n → p i ≡ false
  unfolding lowest
  lowest_none zero e i h = absurd (omega arith)
  lowest_none (suc n) e i h =
      let q : (lowest p n ≡ None) × (p n ≡ false) = found_none (lowest p n) (p n) n e in
      ⊎_elim (λ z. ap p z ∙ q.1) (λ z. lowest_none n q.0 i (omega (arith, z))) (same_or i n)

  -- where something is found, what follows from each number that has it holds
  pub lowest_some : (n : ℕ) {R : Type 0} → is_some (lowest p n) ≡ true → ((i : ℕ) → p i ≡ true → R) → R
  lowest_some n {R} e f = by (lowest p n) refl e
    where
      by : (x : Option ℕ) → lowest p n ≡ x → is_some x ≡ true → R
      by (Some i) q e = f i (lowest_at n i q).1
      by None q e = let z : ◌≡◌ {A = ℕ} 0 1 = cc in absurd (omega arith)
