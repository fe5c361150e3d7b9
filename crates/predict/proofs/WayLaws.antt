-- A place of a list that is there reads the same whatever stands past the last one, and a pair of tests fails by either.
use Prim.Native.Nat.{ℕ, zero, suc, ◌<◌}
use mathlib.Core.Path.{◌≡◌, refl}
use mathlib.Core.Bool.{Bool, true, false, ◌&&◌}
use mathlib.Core.List.{List, [], ◌∷◌}
use native.Mathlib.Omega.{arith}
use lib.ListN.{length, get_or}

pub at_any : {A : Type 0} (l : List A) (i : ℕ) (d e : A) → i < length l → get_or l i d ≡ get_or l i e
at_any [] i d e h = absurd (omega arith)
at_any (x ∷ l) zero d e h = refl
at_any (x ∷ l) (suc i) d e h = at_any l i d e (omega arith)

pub not_both : {p q : Bool} → p ≡ true → q ≡ false → (p && q) ≡ false
not_both e f = rw (e, f)

pub not_first : {p : Bool} (q : Bool) → p ≡ false → (p && q) ≡ false
not_first q e = rw e
