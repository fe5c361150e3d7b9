-- Pieces put one behind the other are put as one (`put_after`, `together`), those of a loop too (`put-spread`), and all of the words in their place are they (`put_all`).
-- The idea: what stands before a piece and the piece itself is a front of known length, which the next piece leaves alone.
use Rattle.std.proofs.Common.{◌≡◌, ℕ, zero, suc, ◌+◌, ◌*◌, ◌≤◌, List, [], ◌∷◌, ◌++◌, length, take, drop, sym, ap, ◌∙◌, append_assoc, append-nil, add-zero, arith, length-append, take-append-drop, drop_of_length-le, length-take-le, drop-drop, take_at}
use lib.Seq.{drop-append-add, take-length, paste}
use Rattle.num.specs.Fold.{up_to}
use Rattle.words.specs.Put.{put}
use Rattle.words.specs.Words.{flat, spread}

pub put_none : (at : ℕ) (ws : List ℕ) → put at [] ws ≡ ws
unfolding put
put_none at ws =
    ap (λ (k : ℕ). take at ws ++ [] ++ drop k ws) (add-zero at)
    ∙ ap (λ (r : List ℕ). r ++ drop at ws) (append-nil (take at ws))
    ∙ take-append-drop at ws

-- a front and a piece behind it
front : (at n : ℕ) (xs ws : List ℕ) → length xs ≡ n → at ≤ length ws → length (take at ws ++ xs) ≡ at + n
front at n xs ws e h = length-append (take at ws) xs ∙ omega (arith, e, length-take-le at ws h)

pub put_after : (at n : ℕ) (xs ys ws : List ℕ) → length xs ≡ n → at ≤ length ws → put (at + n) ys (put at xs ws) ≡ put at (xs ++ ys) ws
unfolding put
put_after at n xs ys ws e h =
    let p : List ℕ = take at ws ++ xs in
    let d : List ℕ = drop (at + length xs) ws in
    let far : at + length xs + length ys ≡ at + length (xs ++ ys) = omega (arith, length-append xs ys) in
    ap (λ (r : List ℕ). r ++ ys ++ drop (at + n + length ys) (p ++ d)) (take_at p d (at + n) (front at n xs ws e h))
    ∙ ap
    (λ (r : List ℕ). p ++ ys ++ r)
    (ap (λ (k : ℕ). drop (k + length ys) (p ++ d)) (sym (front at n xs ws e h))
    ∙ drop-append-add p d (length ys)
    ∙ drop-drop (length ys) (at + length xs) ws
    ∙ ap (λ (k : ℕ). drop k ws) far)
    ∙ ap (λ (r : List ℕ). r ++ drop (at + length (xs ++ ys)) ws) (append_assoc (take at ws) xs ys)

-- the words reach as far as the piece
reaches : (at n : ℕ) (xs ws : List ℕ) → length xs ≡ n → at ≤ length ws → at + n ≤ length (put at xs ws)
unfolding put
reaches at n xs ws e h =
    omega (arith, length-append (take at ws ++ xs) (drop (at + length xs) ws), front at n xs ws e h)

-- ---- a loop's pieces

module _ (f : ℕ → List ℕ) (w : ℕ) (same : (j : ℕ) → length (f j) ≡ w) where
  pub length-spread : (n : ℕ) → length (spread f n) ≡ w * n
  unfolding spread
  length-spread zero = omega arith
  length-spread (suc n) = length-append (spread f n) (f n) ∙ omega (arith, length-spread n, same n)

  pub put-spread : (at : ℕ) (place : ℕ → ℕ) → ((j : ℕ) → place j ≡ at + w * j) → (n : ℕ) (ws : List ℕ) → at ≤ length ws
      → up_to (λ (o : List ℕ) (j : ℕ). put (place j) (f j) o) ws n ≡ put at (spread f n) ws
  unfolding up_to spread
  put-spread at place is zero ws h = sym (put_none at ws)
  put-spread at place is (suc n) ws h =
      ap (λ (o : List ℕ). put (place n) (f n) o) (put-spread at place is n ws h)
      ∙ ap (λ (k : ℕ). put k (f n) (put at (spread f n) ws)) (is n)
      ∙ put_after at (w * n) (spread f n) (f n) ws (length-spread n) h

-- ---- several pieces, each with its length

abbrev pub put_by : ℕ → List (ℕ × List ℕ) → List ℕ → List ℕ
put_by at [] ws = ws
put_by at (p ∷ ps) ws = put_by (at + p.0) ps (put at p.1 ws)

abbrev pub Long : List (ℕ × List ℕ) → Type 0
Long [] = Unit
Long (p ∷ ps) = (length p.1 ≡ p.0) × Long ps

abbrev pub pieces : List (ℕ × List ℕ) → List (List ℕ)
pieces [] = []
pieces (p ∷ ps) = p.1 ∷ pieces ps

pub together : (at : ℕ) (ps : List (ℕ × List ℕ)) (ws : List ℕ) → Long ps → at ≤ length ws → put_by at ps ws ≡ put at (flat (pieces ps)) ws
together at [] ws l h = sym (put_none at ws)
together at (p ∷ ps) ws l h =
    together (at + p.0) ps (put at p.1 ws) l.1 (reaches at p.0 p.1 ws l.0 h)
    ∙ put_after at p.0 p.1 (flat (pieces ps)) ws l.0 h

-- all of the words
pub put_all : (xs ws : List ℕ) → length xs ≡ length ws → put 0 xs ws ≡ xs
unfolding put
put_all xs ws e = ap (λ (r : List ℕ). xs ++ r) (drop_of_length-le ws {i = 0 + length xs} (omega (arith, e))) ∙ append-nil xs

-- the copy that a loop makes, once it is through
pub put-paste : (at : ℕ) (xs ws : List ℕ) → paste ws at xs (length xs) ≡ put at xs ws
unfolding put
put-paste at xs ws = ap (λ (r : List ℕ). take at ws ++ r ++ drop (at + length xs) ws) (take-length xs)
