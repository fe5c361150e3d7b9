-- Stores into lists: an element after a store (`set_cases`), and bytes pasted: every other byte is as it was, and their own part is they, by
-- cutting the list at the ends of the paste.
use Prim.Native.Nat.{ℕ, zero, suc, ◌+◌, ◌-◌, ◌*◌, ◌<◌, ◌≤◌}
use mathlib.Core.Path.{◌≡◌, refl, sym, ap, ◌∙◌}
use mathlib.Core.Bool.{Bool, true, false, cond}
use mathlib.Core.List.{List, ◌++◌, append_assoc}
use mathlib.Core.Logic.{inl, inr, ⊎_elim}
use native.Mathlib.Omega.{arith}
use borrow.Author.Tests.{leb-true}
use lib.Dec.{leb}
use lib.ListN.{length, take, drop, get_or, set, replicate, length-set, length-take, length-drop, get_or-eq_default}
use lib.Seq.{paste, take-paste, drop-paste, length-paste, length-take-le, take-add, drop_at, take_at, take_all, get_or-set_same, get_or-set_other, get_or-take, get_or-drop, ext_get_or}
use Rattle.cache.proofs.Below.{below_or, same_or}
use Rattle.cache.proofs.FillLaws.{Out}
use Rattle.cache.specs.Loads.{put}

-- ---- one element, and a list of one value

-- an element after a store, whether or not the place is there
pub set_cases : {A : Type 0} (Q : A → Type 0) (l : List A) (i j : ℕ) (a d : A) → (j ≡ i → Q a) → Q (get_or l j d) → Q d → Q (get_or (set l i a) j d)
set_cases Q l i j a d same other none = ⊎_elim here (λ ne. rw (get_or-set_other l i j a d ne) other) (same_or j i)
  where
    here : j ≡ i → Q (get_or (set l i a) j d)
    here e =
        ⊎_elim
        (λ h. rw (e, get_or-set_same l i a d h) (same e))
        (λ h. let past : length (set l i a) ≤ j = rw length-set (omega (arith, h)) in rw (get_or-eq_default (set l i a) d past) none)
        (below_or i (length l))

pub get_d_same : {A : Type 0} (n i : ℕ) (a : A) → get_or (replicate n a) i a ≡ a
get_d_same zero i a = refl
get_d_same (suc n) zero a = refl
get_d_same (suc n) (suc i) a = get_d_same n i a

-- ---- a part of a list

part_of : (l : List ℕ) (b m : ℕ) → b ≤ length l → take m (drop b l) ≡ drop b (take (b + m) l)
part_of l b m h = sym (ap (drop b) (take-add b m l) ∙ drop_at (take b l) (take m (drop b l)) b (length-take-le b l h))

-- of two lists that are as long and agree there
pub part_same : (x y : List ℕ) (b m : ℕ) → length x ≡ length y → ((j : ℕ) → j < m → get_or x (b + j) 0 ≡ get_or y (b + j) 0) → take m (drop b x) ≡ take m (drop b y)
part_same x y b m e same = ext_get_or 0 (take m (drop b x)) (take m (drop b y)) (simp (length-take, length-drop, e)) at
  where
    at : (j : ℕ) → j < length (take m (drop b x)) → get_or (take m (drop b x)) j 0 ≡ get_or (take m (drop b y)) j 0
    at j h = let k : j < m = omega (arith, simp length-take at h) in rw (get_or-take m (drop b x) j 0 k, get_or-take m (drop b y) j 0 k, get_or-drop b x j 0, get_or-drop b y j 0) (same j k)

module _ (d : List ℕ) (at : ℕ) (s : List ℕ) (n : ℕ) (fits : at + n ≤ length d) (size : length s ≡ n) where
  pub paste_size : length (paste d at s n) ≡ length d
  paste_size = length-paste d at s n fits (omega arith)

  pub bytes_same : take n (drop at (paste d at s n)) ≡ s
  bytes_same =
      part_of (paste d at s n) at n (rw paste_size (omega arith))
      ∙ ap (drop at) (take-paste d at s n (omega arith) (omega arith))
      ∙ drop_at (take at d) (take n s) at (length-take-le at d (omega arith))
      ∙ take_all n s (omega arith)

  take_before : take at (paste d at s n) ≡ take at d
  take_before =
      ap (take at) (append_assoc (take at d) (take n s) (drop (at + n) d))
      ∙ take_at (take at d) (take n s ++ drop (at + n) d) at (length-take-le at d (omega arith))

  -- any other byte
  pub byte_same : (b : ℕ) → Out at (at + n) b → get_or (paste d at s n) b 0 ≡ get_or d b 0
  byte_same b (inl h) = sym (get_or-take at (paste d at s n) b 0 h) ∙ ap (λ (l : List ℕ). get_or l b 0) take_before ∙ get_or-take at d b 0 h
  byte_same b (inr h) =
      let e : at + n + (b - (at + n)) ≡ b = omega arith in
      rw (← e, ← get_or-drop (at + n) d, ← get_or-drop (at + n) (paste d at s n), drop-paste d at s n (omega arith) (omega arith))

  pub bytes_before : (b m : ℕ) → b + m ≤ at → take m (drop b (paste d at s n)) ≡ take m (drop b d)
  bytes_before b m h = part_same (paste d at s n) d b m paste_size (λ j k. byte_same (b + j) (inl (omega arith)))

-- a chunk put into the arena, or not, leaves its length
pub put_size : (arena : List ℕ) (slot done : ℕ) (bs : List ℕ) → length (put arena slot done bs) ≡ length arena
unfolding put
put_size arena slot done bs = by (leb (slot * 8192 + done + length bs) (length arena)) refl
  where
    by : (t : Bool) → leb (slot * 8192 + done + length bs) (length arena) ≡ t
        → length (cond t (paste arena (slot * 8192 + done) bs (length bs)) arena) ≡ length arena
    by true e = paste_size arena (slot * 8192 + done) bs (length bs) (leb-true (slot * 8192 + done + length bs) (length arena) e) refl
    by false e = refl

-- and every byte but its own
pub put_same : (arena : List ℕ) (slot done : ℕ) (bs : List ℕ) (b : ℕ) → Out (slot * 8192 + done) (slot * 8192 + done + length bs) b
    → get_or (put arena slot done bs) b 0 ≡ get_or arena b 0
unfolding put
put_same arena slot done bs b o = by (leb (slot * 8192 + done + length bs) (length arena)) refl
  where
    by : (t : Bool) → leb (slot * 8192 + done + length bs) (length arena) ≡ t
        → get_or (cond t (paste arena (slot * 8192 + done) bs (length bs)) arena) b 0 ≡ get_or arena b 0
    by true e = byte_same arena (slot * 8192 + done) bs (length bs) (leb-true (slot * 8192 + done + length bs) (length arena) e) refl b o
    by false e = refl
