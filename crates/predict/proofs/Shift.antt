-- A list whose places take the next one's, one after another: one place more (`shift_turn`), and the end (`shift_end`). The idea: induction on
-- the list.
use Prim.Native.Nat.{ℕ, zero, suc, ◌+◌, ◌<◌}
use mathlib.Core.Path.{◌≡◌, refl, ap}
use mathlib.Core.List.{List, [], ◌∷◌, ◌++◌}
use native.Mathlib.Numerals.{add-one}
use native.Mathlib.Omega.{arith}
use lib.ListN.{length, get_or, set, take, drop}

module _ {A : Type 0} where
  -- the first i places hold what stood one place on, and the others what they held
  abbrev pub moved : ℕ → List A → List A
  moved i l = take i (drop 1 l) ++ drop i l

  turn_of : (x : A) (l : List A) (i : ℕ) (e : A) → i < length l
      → set (take i l ++ drop i (x ∷ l)) i (get_or (take i l ++ drop i (x ∷ l)) (suc i) e) ≡ take (suc i) l ++ drop (suc i) (x ∷ l)
  turn_of x [] i e h = absurd (omega arith)
  turn_of x (y ∷ l) zero e h = refl
  turn_of x (y ∷ l) (suc i) e h = ap (λ (r : List A). y ∷ r) (turn_of y l i e (omega arith))

  pub shift_turn : (l : List A) (i : ℕ) (e : A) → i + 1 < length l → set (moved i l) i (get_or (moved i l) (i + 1) e) ≡ moved (i + 1) l
  shift_turn [] i e h = absurd (omega arith)
  shift_turn (x ∷ l) i e h = rw add-one (turn_of x l i e (omega arith))

  pub shift_end : (l : List A) → moved 15 l ≡ drop 1 (take 16 l) ++ drop 15 l
  shift_end [] = refl
  shift_end (x ∷ l) = refl
