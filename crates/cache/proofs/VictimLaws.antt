-- The victim lies below the count, no start has an older youngest page, and none below it one as old (`victim_is`); when there is one
-- (`victim_there`, `victim_none`). Before that the turns of a least and of a first greatest, that they are such (`least_below`,
-- `best_first`), and that a list of ages serves in place of the pages (`victim-in`).
use Rattle.std.specs.Prelude.{Some, None}
use Rattle.std.proofs.Common.{◌≡◌, ℕ, zero, suc, ◌+◌, ◌-◌, ◌<◌, ◌≤◌, Bool, true, false, cond, ltb, List, length, get_or, set, refl, ap, ◌∙◌, ⊎_elim, add-one, arith, get_or-set_other, get_or-set_same, ltb-false, ltb-true, le-ltb, lt-ltb}
use lib.ListN.{get_or-eq_default}
use Rattle.cache.specs.declared.Pages.{Pages}
use Rattle.cache.specs.declared.victim.Best.{Best}
use Rattle.cache.specs.Runs.{empty_slot, slot_at, kind_at}
use Rattle.cache.specs.Evict.{head_of}
use Rattle.cache.specs.Victim.{slot_age, head_age, age, lesser, least_of, youngest, better, best_of, victim, First, Chosen, age_at, Aged, youngest_in, oldest}
use Rattle.cache.proofs.Below.{same_or}

-- ---- turns

module _ (f : ℕ → ℕ) where
  pub least_none : least_of f 0 ≡ 4294967295
  unfolding least_of
  least_none = refl

  pub least_turn : (i : ℕ) → least_of f (i + 1) ≡ lesser (f i) (least_of f i)
  unfolding least_of
  least_turn i = rw add-one

  pub best_one : best_of f 0 ≡ record { at = 0; age = f 0 }
  unfolding best_of
  best_one = refl

  pub best_turn : (i : ℕ) → best_of f (i + 1) ≡ better (best_of f i) (i + 1) (f (i + 1))
  unfolding best_of
  best_turn i = rw add-one

  -- ---- the best is a greatest, and the first

  best_by : (n : ℕ) (b : Best) (t : Bool) → ltb b.age (f (suc n)) ≡ t → First f n b → First f (suc n) (cond t (record { at = suc n; age = f (suc n) }) b)
  best_by n b true e r =
      let less : b.age < f (suc n) = ltb-true b.age (f (suc n)) e in
      record {
        within = omega arith;
        age = refl;
        most = λ (j : ℕ) (h : j ≤ suc n). ⊎_elim (λ q. rw q (omega arith)) (λ q. omega (arith, r.most j (omega (arith, q)))) (same_or j (suc n));
        first = λ (j : ℕ) (h : j < suc n). omega (arith, r.most j (omega arith));
      }
  best_by n b false e r = record {
    within = omega (arith, r.within);
    age = r.age;
    most = λ (j : ℕ) (h : j ≤ suc n). ⊎_elim (λ q. rw q (ltb-false b.age (f (suc n)) e)) (λ q. r.most j (omega (arith, q))) (same_or j (suc n));
    first = r.first;
  }

  pub best_first : (n : ℕ) → First f n (best_of f n)
  unfolding best_of
  best_first zero = record {
    within = omega arith;
    age = refl;
    most = λ (j : ℕ) (h : j ≤ 0). let e : j ≡ 0 = omega arith in rw e (omega arith);
    first = λ (j : ℕ) (h : j < 0). absurd (omega arith);
  }
  best_first (suc n) = best_by n (best_of f n) (ltb (best_of f n).age (f (suc n))) refl (best_first n)

  -- ---- the least is a least

  least_by : (n j : ℕ) (t : Bool) → ltb (f n) (least_of f n) ≡ t → (j < n → least_of f n ≤ f j) → j < suc n → cond t (f n) (least_of f n) ≤ f j
  least_by n j true e rest h = ⊎_elim (λ q. rw q (omega arith)) (λ q. omega (arith, ltb-true (f n) (least_of f n) e, rest (omega (arith, q)))) (same_or j n)
  least_by n j false e rest h = ⊎_elim (λ q. rw q (ltb-false (f n) (least_of f n) e)) (λ q. rest (omega (arith, q))) (same_or j n)

  pub least_below : (n j : ℕ) → j < n → least_of f n ≤ f j
  unfolding least_of
  least_below zero j h = absurd (omega arith)
  least_below (suc n) j h = least_by n j (ltb (f n) (least_of f n)) refl (λ k. least_below n j k) h

-- ---- the victim

pub victim_none : (g : Pages) (pages : ℕ) → g.count < pages → victim g pages ≡ None
victim_none g pages h = by (ltb 96 g.count)
  where
    by : (t : Bool) → cond t None (cond (ltb g.count pages) None (Some (best_of (youngest g pages) (g.count - pages)).at)) ≡ None
    by true = refl
    by false = rw (lt-ltb g.count pages h)

pub victim_there : (g : Pages) (pages : ℕ) → g.count ≤ 96 → pages ≤ g.count → victim g pages ≡ Some (best_of (youngest g pages) (g.count - pages)).at
victim_there g pages k h = rw (le-ltb 96 g.count k, le-ltb g.count pages h)

pub victim_is : (g : Pages) (pages s : ℕ) → victim g pages ≡ Some s → Chosen g pages s
victim_is g pages s = by (ltb 96 g.count) (ltb g.count pages) refl
  where
    by : (t u : Bool) → ltb g.count pages ≡ u
        → cond t None (cond u None (Some (best_of (youngest g pages) (g.count - pages)).at)) ≡ Some s
        → Chosen g pages s
    by true u p e = let z : ◌≡◌ {A = ℕ} 0 1 = cc in absurd (omega arith)
    by false true p e = let z : ◌≡◌ {A = ℕ} 0 1 = cc in absurd (omega arith)
    by false false p e =
        let i : (best_of (youngest g pages) (g.count - pages)).at ≡ s = cc in
        let r : First (youngest g pages) (g.count - pages) (best_of (youngest g pages) (g.count - pages)) = best_first (youngest g pages) (g.count - pages) in
        let a : (best_of (youngest g pages) (g.count - pages)).age ≡ youngest g pages s = r.age ∙ ap (youngest g pages) i in
        record {
          within = omega (arith, ltb-false g.count pages p, r.within, i);
          most = λ (j : ℕ) (h : j + pages ≤ g.count). rw a at (r.most j (omega arith));
          first = λ (j : ℕ) (h : j < s). rw a at (r.first j (omega (arith, i)));
        }

-- ---- ages taken once

-- the age of page i, by what is read at its head h: `at` is h where there is such a page
pub age_read : (g : Pages) (i h at : ℕ) → length g.slots ≡ 96 → h ≡ head_of i (kind_at g.slots i) → (h < 96 → at ≡ h)
    → age_at (slot_at g.slots at) h g.clock (get_or g.used at 0) ≡ age g i
unfolding age
age_read g i h at n e f = by (ltb h 96) refl ∙ ap (head_age g) e
  where
    by : (t : Bool) → ltb h 96 ≡ t → cond t (slot_age (slot_at g.slots at) g.clock (get_or g.used at 0)) 4294967295 ≡ head_age g h
    by true q = rw (f (ltb-true h 96 q))
    by false q =
        let past : length g.slots ≤ h = omega (arith, ltb-false h 96 q) in
        rw (get_or-eq_default g.slots empty_slot past)

pub aged_more : (g : Pages) (l : List ℕ) (i : ℕ) → i < length l → Aged g l i → Aged g (set l i (age g i)) (i + 1)
aged_more g l i b f j h =
    ⊎_elim
    (λ e. rw e (get_or-set_same l i (age g i) 0 b))
    (λ e. get_or-set_other l i j (age g i) 0 e ∙ f j (omega (arith, e)))
    (same_or j i)

least_same : (f h : ℕ → ℕ) (n : ℕ) → ((i : ℕ) → i < n → f i ≡ h i) → least_of f n ≡ least_of h n
unfolding least_of
least_same f h zero e = refl
least_same f h (suc n) e = rw (e n (omega arith), least_same f h n (λ (i : ℕ) (k : i < n). e i (omega arith)))

best_same : (f h : ℕ → ℕ) (n : ℕ) → ((i : ℕ) → i ≤ n → f i ≡ h i) → best_of f n ≡ best_of h n
unfolding best_of
best_same f h zero e = rw (e 0 (omega arith))
best_same f h (suc n) e = rw (e (suc n) (omega arith), best_same f h n (λ (i : ℕ) (k : i ≤ n). e i (omega arith)))

youngest_in_lem : (g : Pages) (l : List ℕ) (start n : ℕ) → start + n ≤ g.count → Aged g l g.count → youngest_in l n start ≡ youngest g n start
youngest_in_lem g l start n b f = least_same (λ (i : ℕ). get_or l (start + i) 0) (λ (i : ℕ). age g (start + i)) n (λ (i : ℕ) (h : i < n). f (start + i) (omega arith))

-- the oldest by the list of ages is the victim
pub oldest_is : (g : Pages) (l : List ℕ) → Aged g l g.count → (pages : ℕ) → oldest l g.count pages ≡ victim g pages
oldest_is g l f pages = by (ltb 96 g.count) (ltb g.count pages) refl
  where
    by : (t u : Bool) → ltb g.count pages ≡ u
        → cond t None (cond u None (Some (best_of (youngest_in l pages) (g.count - pages)).at))
        ≡ cond t None (cond u None (Some (best_of (youngest g pages) (g.count - pages)).at))
    by true u p = refl
    by false true p = refl
    by false false p =
        rw (best_same (youngest_in l pages) (youngest g pages) (g.count - pages) (λ (j : ℕ) (m : j ≤ g.count - pages). youngest_in_lem g l j pages (omega (arith, ltb-false g.count pages p)) f))
