-- Pieces compared with the words at their places: word by word (`held_next`, `held_stop`), one behind the other (`held_append`, `held_flat`), a loop's pieces by their turns
-- (`held_spread`), and all of them (`held_all`). The idea: a list's front decides together with what is left behind it.
use Rattle.std.proofs.Common.{◌≡◌, ℕ, zero, suc, ◌+◌, ◌*◌, ◌<◌, Bool, true, false, ◌&&◌, eqb, List, [], ◌∷◌, ◌++◌, length, get_or, drop, sym, refl, ap, ◌∙◌, add-zero, add-one, arith, drop_of_length-le, drop-cons}
use Rattle.tile.specs.Below.{all_below}
use Rattle.words.specs.Held.{held_at}
use Rattle.words.specs.Words.{flat, spread, same_words}
use Rattle.words.proofs.PutLaws.{Long, pieces, length-spread}

pub and-true : (b : Bool) → b && true ≡ b
and-true true = refl
and-true false = refl

pub and_assoc : (a b c : Bool) → a && (b && c) ≡ (a && b) && c
and_assoc true b c = refl
and_assoc false b c = refl

-- ---- word by word

held_turn : (at : ℕ) (xs ws : List ℕ) (i : ℕ) → i < length xs
    → held_at (at + i) (drop i xs) ws ≡ eqb (get_or xs i 0) (get_or ws (at + i) 0) && held_at (at + (i + 1)) (drop (i + 1) xs) ws
unfolding held_at
held_turn at xs ws i h =
    let far : at + i + 1 ≡ at + (i + 1) = omega arith in
    ap (λ (r : List ℕ). held_at (at + i) r ws) (drop-cons xs i 0 h)
    ∙ ap (λ (k : ℕ). eqb (get_or xs i 0) (get_or ws (at + i) 0) && held_at k (drop (suc i) xs) ws) far
    ∙ ap (λ (k : ℕ). eqb (get_or xs i 0) (get_or ws (at + i) 0) && held_at (at + (i + 1)) (drop k xs) ws) (sym (add-one i))

-- what was compared before, the next word, and what is left
pub held_next : (ok : Bool) (at : ℕ) (xs ws : List ℕ) (i : ℕ) → i < length xs
    → (ok && eqb (get_or xs i 0) (get_or ws (at + i) 0)) && held_at (at + (i + 1)) (drop (i + 1) xs) ws ≡ ok && held_at (at + i) (drop i xs) ws
held_next ok at xs ws i h =
    sym (and_assoc ok (eqb (get_or xs i 0) (get_or ws (at + i) 0)) (held_at (at + (i + 1)) (drop (i + 1) xs) ws))
    ∙ ap (λ (r : Bool). ok && r) (sym (held_turn at xs ws i h))

-- nothing is left
pub held_stop : (ok : Bool) (at : ℕ) (xs ws : List ℕ) (n : ℕ) → n ≡ length xs → (ok && held_at (at + n) (drop n xs) ws) ≡ ok
unfolding held_at
held_stop ok at xs ws n e = ap (λ (r : List ℕ). ok && held_at (at + n) r ws) (drop_of_length-le xs {i = n} (omega (arith, e))) ∙ and-true ok

-- ---- one behind the other

pub held_append : (at : ℕ) (xs ys ws : List ℕ) → held_at at (xs ++ ys) ws ≡ held_at at xs ws && held_at (at + length xs) ys ws
unfolding held_at
held_append at [] ys ws = ap (λ (k : ℕ). held_at k ys ws) (sym (add-zero at))
held_append at (x ∷ xs) ys ws =
    let far : at + 1 + length xs ≡ at + suc (length xs) = omega arith in
    ap (λ (r : Bool). eqb x (get_or ws at 0) && r) (held_append (at + 1) xs ys ws)
    ∙ ap (λ (k : ℕ). eqb x (get_or ws at 0) && (held_at (at + 1) xs ws && held_at k ys ws)) far
    ∙ and_assoc (eqb x (get_or ws at 0)) (held_at (at + 1) xs ws) (held_at (at + suc (length xs)) ys ws)

-- several, each with its length
abbrev pub held_by : ℕ → List (ℕ × List ℕ) → List ℕ → Bool
held_by at [] ws = true
held_by at (p ∷ []) ws = held_at at p.1 ws
held_by at (p ∷ q ∷ ps) ws = held_at at p.1 ws && held_by (at + p.0) (q ∷ ps) ws

pub held_flat : (at : ℕ) (ps : List (ℕ × List ℕ)) (ws : List ℕ) → Long ps → held_at at (flat (pieces ps)) ws ≡ held_by at ps ws
unfolding held_at
held_flat at [] ws l = refl
held_flat at (p ∷ []) ws l = held_append at p.1 [] ws ∙ and-true (held_at at p.1 ws)
held_flat at (p ∷ q ∷ ps) ws l =
    held_append at p.1 (flat (pieces (q ∷ ps))) ws
    ∙ ap (λ (k : ℕ). held_at at p.1 ws && held_at (at + k) (flat (pieces (q ∷ ps))) ws) l.0
    ∙ ap (λ (r : Bool). held_at at p.1 ws && r) (held_flat (at + p.0) (q ∷ ps) ws l.1)

-- ---- a loop's pieces

pub below_next : (p : ℕ → Bool) (i : ℕ) → all_below p (i + 1) ≡ all_below p i && p i
unfolding all_below
below_next p i = rw add-one

pub below_same : (p q : ℕ → Bool) (n : ℕ) → ((j : ℕ) → j < n → p j ≡ q j) → all_below p n ≡ all_below q n
unfolding all_below
below_same p q zero same = refl
below_same p q (suc n) same = rw (below_same p q n (λ (j : ℕ) (h : j < n). same j (omega arith)), same n (omega arith))

pub held_spread : (f : ℕ → List ℕ) (w : ℕ) → ((j : ℕ) → length (f j) ≡ w) → (at n : ℕ) (ws : List ℕ)
    → held_at at (spread f n) ws ≡ all_below (λ (j : ℕ). held_at (at + w * j) (f j) ws) n
unfolding held_at spread all_below
held_spread f w long at zero ws = refl
held_spread f w long at (suc n) ws =
    held_append at (spread f n) (f n) ws
    ∙ ap (λ (k : ℕ). held_at at (spread f n) ws && held_at (at + k) (f n) ws) (length-spread f w long n)
    ∙ ap (λ (r : Bool). r && held_at (at + w * n) (f n) ws) (held_spread f w long at n ws)

-- ---- all of the words

same_from : (xs ws : List ℕ) (at : ℕ) → at + length xs ≡ length ws → same_words xs (drop at ws) ≡ held_at at xs ws
unfolding held_at same_words
same_from [] ws at e = rw (drop_of_length-le ws {i = at} (omega (arith, e)))
same_from (x ∷ xs) ws at e =
    ap (λ (r : List ℕ). same_words (x ∷ xs) r) (drop-cons ws at 0 (omega (arith, e)))
    ∙ ap (λ (k : ℕ). eqb x (get_or ws at 0) && same_words xs (drop k ws)) (sym (add-one at))
    ∙ ap (λ (r : Bool). eqb x (get_or ws at 0) && r) (same_from xs ws (at + 1) (omega (arith, e)))

pub held_all : (xs ws : List ℕ) → length xs ≡ length ws → same_words xs ws ≡ held_at 0 xs ws
held_all xs ws e = same_from xs ws 0 (omega (arith, e))
