-- Pieces found again among the words: what stands before a piece is dropped (`here`, `next`), and a loop's pieces are read by their turn (`word_of`, `table_back`).
use Rattle.std.proofs.Common.{◌≡◌, ℕ, zero, suc, ◌+◌, ◌*◌, ◌<◌, Bool, true, false, ltb, List, [], ◌∷◌, ◌++◌, length, get_or, drop, sym, refl, ap, ◌∙◌, append_assoc, arith, get_or-drop, drop-drop, get_or-append-add, ext_get_or, drop_at, ltb-false, ltb-true}
use mathlib.Core.Path.{fun_ext}
use lib.ListN.{get_or-append}
use lib.Seq.{get_or_at}
use Rattle.words.specs.Words.{table, spread, flat, from}
use Rattle.words.proofs.ArrayLaws.{length-table}
use Rattle.words.proofs.PutLaws.{length-spread}

-- ---- places

-- the words from a place on
pub from_is : (ws : List ℕ) (at : ℕ) (ys : List ℕ) → drop at ws ≡ ys → from ws at ≡ (λ (k : ℕ). get_or ys k 0)
from_is ws at ys e = fun_ext (λ (k : ℕ). sym (get_or-drop at ws k 0) ∙ ap (λ (r : List ℕ). get_or r k 0) e)

-- one of them
pub at_is : (ws : List ℕ) (at : ℕ) (ys : List ℕ) → drop at ws ≡ ys → (k : ℕ) → get_or ws (at + k) 0 ≡ get_or ys k 0
at_is ws at ys e k = sym (get_or-drop at ws k 0) ∙ ap (λ (r : List ℕ). get_or r k 0) e

module _ (ws : List ℕ) (at : ℕ) (x : List ℕ) (xs : List (List ℕ)) (zs : List ℕ) (e : drop at ws ≡ flat (x ∷ xs) ++ zs) where
  pub here : drop at ws ≡ x ++ (flat xs ++ zs)
  here = e ∙ append_assoc x (flat xs) zs

  pub next : (n : ℕ) → length x ≡ n → drop (at + n) ws ≡ flat xs ++ zs
  next n l = sym (drop-drop n at ws) ∙ ap (λ (r : List ℕ). drop n r) here ∙ drop_at x (flat xs ++ zs) n l

-- ---- arrays

module _ {A : Type 0} (f : ℕ → A) (d : A) where
  pub table_at : (n i : ℕ) → i < n → get_or (table f n) i d ≡ f i
  unfolding table
  table_at zero i h = absurd (omega arith)
  table_at (suc n) i h = by (ltb i n) refl (table_at n i)
    where
      by : (b : Bool) → ltb i n ≡ b → (i < n → get_or (table f n) i d ≡ f i) → get_or (table f n ++ (f n ∷ [])) i d ≡ f i
      by true e before =
          let l : i < n = ltb-true i n e in
          get_or-append (table f n) (f n ∷ []) d i (omega (arith, l, length-table f n)) ∙ before l
      by false e before =
          let last : i ≡ n = omega (arith, h, ltb-false i n e) in
          rw last (get_or_at (table f n) (f n) [] d n (length-table f n))

  pub table_back : (xs : List A) (n : ℕ) → length xs ≡ n → ((i : ℕ) → i < n → f i ≡ get_or xs i d) → table f n ≡ xs
  table_back xs n l same =
      ext_get_or d (table f n) xs (length-table f n ∙ sym l)
      (λ (i : ℕ) (h : i < length (table f n)). table_at n i (omega (arith, length-table f n)) ∙ same i (omega (arith, length-table f n)))

module _ (f : ℕ → List ℕ) (w : ℕ) (same : (j : ℕ) → length (f j) ≡ w) where
  spread_at : (n i k : ℕ) (zs : List ℕ) → i < n → k < w → get_or (spread f n ++ zs) (w * i + k) 0 ≡ get_or (f i) k 0
  unfolding spread
  spread_at zero i k zs h l = absurd (omega arith)
  spread_at (suc n) i k zs h l = ap (λ (r : List ℕ). get_or r (w * i + k) 0) (append_assoc (spread f n) (f n) zs) ∙ by (ltb i n) refl (λ (a : i < n). spread_at n i k (f n ++ zs) a l)
    where
      by : (b : Bool) → ltb i n ≡ b → (i < n → get_or (spread f n ++ (f n ++ zs)) (w * i + k) 0 ≡ get_or (f i) k 0)
          → get_or (spread f n ++ (f n ++ zs)) (w * i + k) 0 ≡ get_or (f i) k 0
      by true e before = before (ltb-true i n e)
      by false e before =
          let last : i ≡ n = omega (arith, h, ltb-false i n e) in
          rw last
          (ap (λ (j : ℕ). get_or (spread f n ++ (f n ++ zs)) (j + k) 0) (sym (length-spread f w same n))
          ∙ get_or-append-add (spread f n) (f n ++ zs) k 0
          ∙ get_or-append (f n) zs 0 k (omega (arith, same n)))

  -- word k of turn i, where the pieces begin at a place
  pub word_of : (ws : List ℕ) (at n : ℕ) (zs : List ℕ) → drop at ws ≡ spread f n ++ zs → (i k : ℕ) → i < n → k < w → from ws (at + w * i) k ≡ get_or (f i) k 0
  word_of ws at n zs e i k h l =
      let far : at + w * i + k ≡ at + (w * i + k) = omega arith in
      ap (λ (j : ℕ). get_or ws j 0) far
      ∙ sym (get_or-drop at ws (w * i + k) 0)
      ∙ ap (λ (r : List ℕ). get_or r (w * i + k) 0) e
      ∙ spread_at n i k zs h l
