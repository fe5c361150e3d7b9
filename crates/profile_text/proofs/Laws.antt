-- Laws of the text and of its writers. Texts that are put one behind the other are put as one: none, one byte, two texts, the next byte of a text
-- (`append_none`, `append_one`, `append_part`, `append_more`, `append_next`), and what is put from 0 on is how the buffer begins (`whole`).
-- Numbers in decimal by their last digit (`decimal_one`, `decimal_more`), and how long they are (`decimal_some`, `length-decimal`, `number_ends`). How long whole
-- metres of 16 bits are (`length_metres`), a line (`length-line`), the lines of one sample more (`lines_more`), and samples by index (`length-samples`, `sample_at`).
use Prim.Native.Nat.{ℕ, zero, suc, ◌+◌, ◌*◌, ◌/◌, ◌%◌, ◌^◌, ◌<◌, ◌≤◌}
use mathlib.Core.Path.{◌≡◌, refl, sym, ap, ◌∙◌}
use mathlib.Core.List.{List, [], ◌∷◌, ◌++◌, append_assoc, append-nil}
use mathlib.Core.Bool.{Bool, true, false, cond}
use native.Mathlib.Nat.{add-zero}
use native.Mathlib.Numerals.{add-one}
use native.Mathlib.Omega.{arith}
use lib.ListN.{length, take, drop, set, get_or, length-append, take-append-drop}
use lib.Seq.{take-suc, take-suc-set, drop-set-lt, drop-drop}
use lib.Dec.{ltb}
use lib.IntN.{ℤ, pos, negsuc}
use lib.Signed.{mag}
use borrow.Rule.Slice.PartMut.{put_mid}
use Rattle.std.proofs.lemmas.Slice.{take-put_mid, drop-put_mid}
use borrow.Author.Tests.{lt-ltb, le-ltb}
use Rattle.num.specs.Cast.{signed16}
use Rattle.profile_text.specs.Text.{digits, decimal, signed, whole_metres, line, lines_by, samples}
use Rattle.profile_text.specs.Appended.{Appended}
use Rattle.profile_text.proofs.Rounding.{whole_metres-mag}

-- ---- text put into a buffer

pub append_none : (xs : List ℕ) (at : ℕ) → Appended xs at [] xs at
append_none xs at = record { ends = omega arith; stands = sym (append-nil (take at xs)); rest = refl }

pub append_one : (xs : List ℕ) (at b : ℕ) → at < length xs → Appended xs at (b ∷ []) (set xs at b) (at + 1)
append_one xs at b h = record { ends = omega arith; stands = rw add-one (take-suc-set xs at b h); rest = drop-set-lt (at + 1) xs at b (omega arith) }

-- a text in the place of a part of the buffer
pub append_part : (xs ys : List ℕ) (at k r : ℕ) → r ≡ at + length ys → k ≡ length ys → r ≤ length xs → Appended xs at ys (put_mid at k xs ys) r
append_part xs ys at k r e f h =
    record { ends = e; stands = take-put_mid at k xs ys r e (omega arith); rest = drop-put_mid at k xs ys r (omega arith) (omega arith) (sym f) }

drop_further : (n m : ℕ) (xs ys : List ℕ) → drop n xs ≡ drop n ys → drop (n + m) xs ≡ drop (n + m) ys
drop_further n m xs ys e = sym (drop-drop m n xs) ∙ ap (drop m) e ∙ drop-drop m n ys

pub append_more : {b m a t u : List ℕ} {at r s : ℕ} → Appended b at t m r → Appended m r u a s → Appended b at (t ++ u) a s
append_more {b} {m} {a} {t} {u} {at} {r} {s} one two =
    record {
      ends = omega (arith, length-append t u, one.ends, two.ends);
      stands = two.stands ∙ ap (λ l. l ++ u) one.stands ∙ append_assoc (take at b) t u;
      rest = two.rest ∙ rw two.ends (drop_further r (length u) m b one.rest);
    }

pub whole : {b a t : List ℕ} {r : ℕ} → Appended b 0 t a r → (r ≡ length t) × (a ≡ t ++ drop (length t) b)
whole {b} {a} {t} {r} h =
    let ends : r ≡ length t = omega (arith, h.ends) in
    (ends, sym (take-append-drop r a) ∙ rw (h.stands, h.rest, ends))

pub append_next : (b m a t : List ℕ) (at i r : ℕ) → i < length t → Appended b at (take i t) m (at + i) → Appended m (at + i) (get_or t i 0 ∷ []) a r → Appended b at (take (i + 1) t) a (at + (i + 1))
append_next b m a t at i r i< h g = let next : at + (i + 1) ≡ r = omega (arith, g.ends) in rw (next, add-one i, take-suc t i 0 i<) (append_more h g)

-- ---- numbers in decimal

-- one digit more than are enough
digits_more : (k n : ℕ) → n < 10 ^ suc k → digits (suc (suc k)) n ≡ digits (suc k) n
unfolding digits
digits_more zero n h = rw (lt-ltb n 10 (omega arith))
digits_more (suc k) n h = ap (λ ds. cond (ltb n 10) ((48 + n) ∷ []) (ds ++ ((48 + n % 10) ∷ []))) (digits_more k (n / 10) (omega arith))

digits_step : (k n : ℕ) → 10 ≤ n → digits (suc k) n ≡ digits k (n / 10) ++ ((48 + n % 10) ∷ [])
unfolding digits
digits_step k n h = rw (le-ltb n 10 h)

digits_one : (k n : ℕ) → n < 10 → digits (suc k) n ≡ (48 + n) ∷ []
unfolding digits
digits_one k n h = rw (lt-ltb n 10 h)

pub decimal_one : (n : ℕ) → n < 10 → decimal n ≡ (48 + n) ∷ []
unfolding decimal
decimal_one n h = digits_one 19 n h

pub decimal_more : (n : ℕ) → 10 ≤ n → n < 10 ^ 20 → decimal n ≡ decimal (n / 10) ++ ((48 + n % 10) ∷ [])
unfolding decimal
decimal_more n l h = digits_step 19 n l ∙ ap (λ ds. ds ++ ((48 + n % 10) ∷ [])) (sym (digits_more 18 (n / 10) (omega arith)))

module _ (x y : ℕ) (ds : List ℕ) where
  either_most : (b : Bool) (m : ℕ) → length ds ≤ m → length (cond b (x ∷ []) (ds ++ (y ∷ []))) ≤ suc m
  either_most true m h = omega arith
  either_most false m h = simp length-append (omega arith)

  either_some : (b : Bool) → 1 ≤ length (cond b (x ∷ []) (ds ++ (y ∷ [])))
  either_some true = omega arith
  either_some false = simp length-append (omega arith)

length_digits : (f k n : ℕ) → n < 10 ^ suc k → length (digits f n) ≤ suc k
unfolding digits
length_digits zero k n h = omega arith
length_digits (suc f) zero n h = rw (lt-ltb n 10 (omega arith)) (omega arith)
length_digits (suc f) (suc k) n h = either_most (48 + n) (48 + n % 10) (digits f (n / 10)) (ltb n 10) (suc k) (length_digits f k (n / 10) (omega arith))

digits_some : (k n : ℕ) → 1 ≤ length (digits (suc k) n)
unfolding digits
digits_some k n = either_some (48 + n) (48 + n % 10) (digits k (n / 10)) (ltb n 10)

pub length-decimal : (k n : ℕ) → n < 10 ^ suc k → length (decimal n) ≤ suc k
unfolding decimal
length-decimal k n h = length_digits 20 k n h

pub decimal_some : (n : ℕ) → 1 ≤ length (decimal n)
unfolding decimal
decimal_some n = digits_some 19 n

-- five bytes are enough for a number below 100,000
pub number_ends : {b a : List ℕ} {at r : ℕ} (n : ℕ) → Appended b at (decimal n) a r → n < 100000 → r ≤ at + 5
number_ends n h l = omega (arith, h.ends, length-decimal 4 n (omega arith))

-- ---- whole metres, and a line

length-signed : (z : ℤ) → mag z < 3278 → length (signed z) ≤ 5
length-signed (pos n) h = omega (arith, length-decimal 3 n (omega arith))
length-signed (negsuc n) h = omega (arith, length-decimal 3 (suc n) (omega arith))

pub length_metres : (z : ℤ) → mag z < 32768 → length (signed (whole_metres z)) ≤ 5
length_metres z h = length-signed (whole_metres z) (whole_metres-mag z h)

pub length-line : (i : ℕ) (z : ℤ) → i < 501 → mag z < 32768 → length (line i z) ≤ 12
unfolding line
length-line i z l h = simp length-append (omega (arith, length-decimal 4 (20 * i) (omega arith), length_metres z h))

-- ---- the lines of an input

module _ (row : ℕ → ℤ → List ℕ) where
  pub lines_more : (j i : ℕ) (zs : List ℤ) (d : ℤ) → i < length zs → lines_by row j (take (suc i) zs) ≡ lines_by row j (take i zs) ++ row (j + i) (get_or zs i d)
  unfolding lines_by
  lines_more j i [] d h = absurd (omega arith)
  lines_more j zero (z ∷ zs) d h = rw (append-nil, add-zero)
  lines_more j (suc i) (z ∷ zs) d h = let next : j + suc i ≡ j + 1 + i = omega arith in rw (lines_more (j + 1) i zs d (omega arith), next, append_assoc)

pub length-samples : (bs : List ℕ) → length (samples bs) ≡ length bs / 2
unfolding samples
length-samples [] = omega arith
length-samples (lo ∷ []) = omega arith
length-samples (lo ∷ hi ∷ bs) = omega (arith, length-samples bs)

pub sample_at : (bs : List ℕ) (i : ℕ) → i * 2 + 1 < length bs → get_or (samples bs) i (pos 0) ≡ signed16 (get_or bs (i * 2) 0 + get_or bs (i * 2 + 1) 0 * 256)
unfolding samples
sample_at [] i h = absurd (omega arith)
sample_at (lo ∷ []) i h = absurd (omega arith)
sample_at (lo ∷ hi ∷ bs) zero h = refl
sample_at (lo ∷ hi ∷ bs) (suc i) h =
    let low : suc i * 2 ≡ suc (suc (i * 2)) = omega arith in
    let high : suc i * 2 + 1 ≡ suc (suc (i * 2 + 1)) = omega arith in
    rw (high, low) (sample_at bs i (omega arith))
