-- Laws about a sum that is tested as a difference, and about a test of every number below a bound and of any. Those about conjunctions and lists of clauses are pack's.
use Prim.Native.Nat.{ℕ, zero, suc, ◌+◌, ◌-◌, ◌≤◌, ◌<◌}
use mathlib.Core.Path.{◌≡◌, refl, sym, ap, ◌∙◌}
use mathlib.Core.Bool.{Bool, true, false, ◌||◌, true≢false}
use native.Mathlib.Numerals.{add-one}
use native.Mathlib.Omega.{arith}
use lib.Dec.{leb, eqb}
use borrow.Author.Tests.{eqb-true, eqb-false, leb-true, leb-false, le-leb, lt-leb}
pub use Rattle.pack.proofs.Laws.{and_left, and_right, and_not, clause, broken}
use Rattle.tile.specs.Below.{all_below, any_below}

-- ---- a sum against a bound, as a difference

pub leb_room : (a s n : ℕ) → s ≤ n → leb a (n - s) ≡ leb (a + s) n
leb_room a s n h = go (leb (a + s) n) refl
  where
    go : (t : Bool) → leb (a + s) n ≡ t → leb a (n - s) ≡ t
    go true e = le-leb a (n - s) (omega (arith, leb-true (a + s) n e))
    go false e = lt-leb a (n - s) (omega (arith, leb-false (a + s) n e))

pub leb_none : (a s n : ℕ) → n < s → leb (a + s) n ≡ false
leb_none a s n h = lt-leb (a + s) n (omega arith)

-- ---- every number below a bound

pub all_none : (p : ℕ → Bool) → all_below p 0 ≡ true
unfolding all_below
all_none p = refl

pub all_more : (p : ℕ → Bool) (i : ℕ) → all_below p i ≡ true → p i ≡ true → all_below p (i + 1) ≡ true
unfolding all_below
all_more p i h t = rw (add-one, h, t)

-- each of them has it
pub all_at : (p : ℕ → Bool) (i n : ℕ) → i < n → all_below p n ≡ true → p i ≡ true
unfolding all_below
all_at p i zero h e = absurd (omega arith)
all_at p i (suc n) h e = go (eqb i n) refl (λ k. all_at p i n k (and_left (all_below p n) (p n) e))
  where
    go : (t : Bool) → eqb i n ≡ t → (i < n → p i ≡ true) → p i ≡ true
    go true q r = ap p (eqb-true i n q) ∙ and_right (all_below p n) (p n) e
    go false q r = r (omega (arith, eqb-false i n q))

pub all_end : (p : ℕ → Bool) (i n : ℕ) → i ≡ n → all_below p i ≡ true → true ≡ all_below p n
all_end p i n q e = sym (rw q at e)

-- one that fails
pub all_miss : (p : ℕ → Bool) (i n : ℕ) → i < n → p i ≡ false → all_below p n ≡ false
all_miss p i n h t = go (all_below p n) refl
  where
    go : (b : Bool) → all_below p n ≡ b → b ≡ false
    go true e = absurd (true≢false (sym (all_at p i n h e) ∙ t))
    go false e = refl

-- ---- some number below a bound

-- one that has it
pub any_at : (p : ℕ → Bool) (i n : ℕ) → i < n → p i ≡ true → any_below p n ≡ true
unfolding any_below
any_at p i zero h t = absurd (omega arith)
any_at p i (suc n) h t = go (eqb i n) refl (any_below p n) refl (λ k. any_at p i n k t)
  where
    go : (same : Bool) → eqb i n ≡ same → (b : Bool) → any_below p n ≡ b → (i < n → any_below p n ≡ true) → (b || p n) ≡ true
    go same q true e r = refl
    go true q false e r = rw (← eqb-true i n q) t
    go false q false e r = absurd (true≢false (sym (r (omega (arith, eqb-false i n q))) ∙ e))

-- where none has it
pub any_none : (p : ℕ → Bool) (n : ℕ) → ((i : ℕ) → i < n → p i ≡ false) → any_below p n ≡ false
unfolding any_below
any_none p zero h = refl
any_none p (suc n) h = rw (any_none p n (λ (i : ℕ) (k : i < n). h i (omega arith)), h n (omega arith))
