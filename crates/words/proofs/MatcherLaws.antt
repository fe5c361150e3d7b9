-- The words of a matcher, piece by piece as the code takes them over; and words of another count, which are not the same.
use Rattle.std.specs.Prelude.{Option, Some, None}
use Rattle.tile.specs.declared.TileId.{TileId}
use Rattle.matcher.specs.declared.Matched.{Matched}
use Rattle.std.proofs.Common.{◌≡◌, ℕ, suc, Bool, true, false, ◌&&◌, eqb, List, [], ◌∷◌, ◌++◌, length, get_or, refl, ap}
use Rattle.words.specs.Words.{same_words, current_words, challenger_words}

-- 14 words of a match and 6 of a challenger
abbrev Taken : List ℕ → List ℕ → List ℕ → List ℕ
Taken a b rest =
    get_or a 0 0 ∷ get_or a 1 0 ∷ get_or a 2 0 ∷ get_or a 3 0 ∷ get_or a 4 0 ∷ get_or a 5 0 ∷ get_or a 6 0 ∷ get_or a 7 0 ∷ get_or a 8 0 ∷ get_or a 9 0 ∷ get_or a 10 0 ∷ get_or a 11 0 ∷ get_or a 12 0 ∷ get_or a 13 0
    ∷ get_or b 0 0 ∷ get_or b 1 0 ∷ get_or b 2 0 ∷ get_or b 3 0 ∷ get_or b 4 0 ∷ get_or b 5 0 ∷ rest

pub taken_all : (k : Option Matched) (d : Option (TileId × ℕ × ℕ)) (rest : List ℕ) → Taken (current_words k) (challenger_words d) rest ≡ current_words k ++ (challenger_words d ++ rest)
taken_all None None rest = refl
taken_all None (Some (tile, edge, count)) rest = refl
taken_all (Some m) None rest = refl
taken_all (Some m) (Some (tile, edge, count)) rest = refl

both_false : (t : Bool) → t && false ≡ false
both_false true = refl
both_false false = refl

pub same_length : (a b : List ℕ) → (length a ≡ length b → ⊥) → same_words a b ≡ false
unfolding same_words
same_length [] [] h = absurd (h refl)
same_length [] (y ∷ ys) h = refl
same_length (x ∷ xs) [] h = refl
same_length (x ∷ xs) (y ∷ ys) h = rw (same_length xs ys (λ e. h (ap suc e))) (both_false (eqb x y))
