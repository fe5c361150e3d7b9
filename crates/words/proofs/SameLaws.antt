-- Equal words, word by word from a place on: one that differs decides (`same_miss`), one that is equal leaves the rest to decide (`same_on`), and with none left they are equal (`same_end`);
-- and words that `same_words` calls equal are (`same_is`, `same_self`).
use Rattle.std.proofs.Common.{◌≡◌, ℕ, suc, ◌+◌, ◌<◌, Bool, true, false, ◌&&◌, eqb, ◌≢◌, List, [], ◌∷◌, length, get_or, drop, sym, refl, ap, ◌∙◌, true≢false, add-one, arith, drop_of_length-le, drop-cons, eq-eqb, ne_eqb, eqb-true}
use Rattle.words.specs.Words.{same_words}

same_turn : (a b : List ℕ) (i : ℕ) → i < length a → i < length b
    → same_words (drop i a) (drop i b) ≡ eqb (get_or a i 0) (get_or b i 0) && same_words (drop (suc i) a) (drop (suc i) b)
unfolding same_words
same_turn a b i h k = rw (drop-cons a i 0 h, drop-cons b i 0 k)

pub same_miss : (a b : List ℕ) (i : ℕ) → i < length a → i < length b → get_or a i 0 ≢ get_or b i 0 → same_words (drop i a) (drop i b) ≡ false
same_miss a b i h k d = same_turn a b i h k ∙ rw (ne_eqb (get_or a i 0) (get_or b i 0) d)

pub same_on : (a b : List ℕ) (i : ℕ) → i < length a → i < length b → get_or a i 0 ≡ get_or b i 0
    → same_words (drop (i + 1) a) (drop (i + 1) b) ≡ same_words (drop i a) (drop i b)
same_on a b i h k e = rw (add-one, same_turn a b i h k, eq-eqb (get_or a i 0) (get_or b i 0) e)

pub same_end : (a b : List ℕ) (n : ℕ) → length a ≡ n → length b ≡ n → same_words (drop n a) (drop n b) ≡ true
unfolding same_words
same_end a b n e k = rw (drop_of_length-le a {i = n} (omega (arith, e)), drop_of_length-le b {i = n} (omega (arith, k)))

pub both : (p q : Bool) → p && q ≡ true → (p ≡ true) × (q ≡ true)
both true true h = (refl, refl)
both true false h = absurd (true≢false (sym h))
both false q h = absurd (true≢false (sym h))

pub same_is : (a b : List ℕ) → same_words a b ≡ true → a ≡ b
unfolding same_words
same_is [] [] h = refl
same_is [] (y ∷ ys) h = absurd (true≢false (sym h))
same_is (x ∷ xs) [] h = absurd (true≢false (sym h))
same_is (x ∷ xs) (y ∷ ys) h =
    let t : (eqb x y ≡ true) × (same_words xs ys ≡ true) = both (eqb x y) (same_words xs ys) h in
    ap (λ (z : ℕ). z ∷ xs) (eqb-true x y t.0) ∙ ap (λ (r : List ℕ). y ∷ r) (same_is xs ys t.1)

pub same_self : (a : List ℕ) → same_words a a ≡ true
unfolding same_words
same_self [] = refl
same_self (x ∷ xs) = rw (eq-eqb x x refl, same_self xs)
