-- What holds of every element of a list, and of what stands past its end: kept by storing, cutting, joining and filling. The idea: the element past the end has it too, so that no bound is
-- asked for; within a bound it is all that the types say (`within`, `beyond`).
use Prim.Native.Nat.{ℕ, zero, suc, ◌+◌, ◌<◌, ◌≤◌}
use mathlib.Core.Path.{◌≡◌, sym, subst, ◌∙◌}
use mathlib.Core.Logic.{⊎_elim}
use mathlib.Core.List.{List, [], ◌∷◌, ◌++◌}
use native.Mathlib.Omega.{arith}
use lib.ListN.{length, get_or, set, take, drop, replicate, length-set, get_or-eq_default}
use Rattle.cache.proofs.Below.{below_or}
use Rattle.cache.specs.Evict.{fill}

module _ {A : Type 0} (P : A → Type 0) (d : A) where
  abbrev pub All : List A → Type 0
  All xs = (i : ℕ) → P (get_or xs i d)

  pub all_none : P d → All []
  all_none p i = p

  pub all_cons : (x : A) (xs : List A) → P x → All xs → All (x ∷ xs)
  all_cons x xs p all zero = p
  all_cons x xs p all (suc i) = all i

  rest : (x : A) (xs : List A) → All (x ∷ xs) → All xs
  rest x xs all i = all (suc i)

  pub all_set : (xs : List A) (at : ℕ) (v : A) → All xs → P v → All (set xs at v)
  all_set [] at v all p = all
  all_set (x ∷ xs) zero v all p = all_cons v xs p (rest x xs all)
  all_set (x ∷ xs) (suc at) v all p = all_cons x (set xs at v) (all zero) (all_set xs at v (rest x xs all) p)

  pub all_drop : (n : ℕ) (xs : List A) → All xs → All (drop n xs)
  all_drop zero xs all = all
  all_drop (suc n) [] all = all
  all_drop (suc n) (x ∷ xs) all = all_drop n xs (rest x xs all)

  pub all_take : (n : ℕ) (xs : List A) → P d → All xs → All (take n xs)
  all_take zero xs p all = all_none p
  all_take (suc n) [] p all = all_none p
  all_take (suc n) (x ∷ xs) p all = all_cons x (take n xs) (all zero) (all_take n xs p (rest x xs all))

  pub all_append : (xs ys : List A) → All xs → All ys → All (xs ++ ys)
  all_append [] ys all more = more
  all_append (x ∷ xs) ys all more = all_cons x (xs ++ ys) (all zero) (all_append xs ys (rest x xs all) more)

  pub all_replicate : (n : ℕ) (v : A) → P d → P v → All (replicate n v)
  all_replicate zero v p q = all_none p
  all_replicate (suc n) v p q = all_cons v (replicate n v) q (all_replicate n v p q)

  pub all_fill : (n at : ℕ) (v : A) (xs : List A) → All xs → P v → All (fill n at v xs)
  unfolding fill
  all_fill zero at v xs all p = all
  all_fill (suc n) at v xs all p = all_fill n (at + 1) v (set xs at v) (all_set xs at v all p) p

  -- within the length, and past it
  pub beyond : (n : ℕ) (xs : List A) → length xs ≡ n → P d → ((i : ℕ) → i < n → P (get_or xs i d)) → All xs
  beyond n xs l p within i =
      ⊎_elim (λ (h : i < n). within i h)
      (λ (h : n ≤ i). subst P (sym (get_or-eq_default xs d {n = i} (omega (arith, l, h)))) p) (below_or i n)

pub length-fill : {A : Type 0} (n at : ℕ) (v : A) (xs : List A) → length (fill n at v xs) ≡ length xs
unfolding fill
length-fill zero at v xs = λ i. length xs
length-fill (suc n) at v xs = length-fill n (at + 1) v (set xs at v) ∙ length-set xs at v
