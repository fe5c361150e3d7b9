-- Laws of the printed page. Columns (`length_right`, `length_left`), the bar (`bar_most`, `bar_highest`), lines of 40 characters and a line end (`length-ahead`, `length-rise`, `length-bar`, `page_line-length`), and
-- pages (`page_length`, `page_past`, and `page_is`, how the code finds a page's samples), the answer (`too_many`, `too_short`, `fits`, `printed_fits`).
use Prim.Native.Nat.{ℕ, zero, suc, ◌+◌, ◌-◌, ◌*◌, ◌/◌, ◌%◌, ◌<◌, ◌≤◌}
use mathlib.Core.Path.{◌≡◌, refl, sym, ap, ◌∙◌}
use mathlib.Core.Bool.{Bool, true, false, cond}
use mathlib.Core.List.{List, [], ◌∷◌, ◌++◌, append-nil}
use native.Mathlib.Nat.{add-zero, mul-div_cancel, div-le_of_le-mul}
use native.Mathlib.Omega.{arith}
use lib.Dec.{eqb, ltb}
use lib.ListN.{length, take, drop, get_or, replicate, length-append, length-replicate, length-take, length-drop}
use lib.Seq.{take_all, drop-nil, get_or-take, get_or-drop}
use lib.IntN.{ℤ, pos, negsuc, nat_abs, ◌-ℤ◌}
use lib.Signed.{mag, le_z}
use borrow.Author.Tests.{lt-ltb, le-ltb, ltb-true, ltb-false, eq-eqb, ne_eqb}
use Rattle.profile_text.specs.Codes.{codes}
use Rattle.profile_text.specs.Text.{decimal, lines_by}
use Rattle.profile_text.specs.Page.{right_in, left_in, tenths, rise, bar_length, ahead, bar, page_line, page_heading, lowest, highest, page_of, page, refusal, answer, printed, written}
use Rattle.std.specs.Prelude.{Result, Ok, Err}
use Rattle.refusal.specs.declared.Refusal.{Refusal}
use Rattle.profile_text.proofs.Laws.{decimal_one, length-decimal}
use Rattle.profile_text.proofs.Order.{gap, le_parts, le_trans, lowest_each, highest_each}

-- ---- columns

pub length_right : (n : ℕ) (text : List ℕ) → length text ≤ n → length (right_in n text) ≡ n
unfolding right_in
length_right n text h = simp (length-append, length-replicate) (omega arith)

pub length_left : (n : ℕ) (text : List ℕ) → length text ≤ n → length (left_in n text) ≡ n
unfolding left_in
length_left n text h = simp (length-append, length-replicate) (omega arith)

pub length-ahead : (i : ℕ) → i < 501 → length (ahead i) ≡ 6
unfolding ahead
length-ahead i h = length_right 6 (decimal (20 * i)) (omega (arith, length-decimal 4 (20 * i) (omega arith)))

pub length-tenths : (n : ℕ) → length (tenths n) ≡ length (decimal (n / 10)) + 2
unfolding tenths
length-tenths n = rw (decimal_one (n % 10) (omega arith)) (simp length-append (omega arith))

pub length-rise : (z : ℤ) → mag z < 32768 → length (right_in 9 (rise z)) ≡ 9
unfolding rise
length-rise (pos n) h = length_right 9 (43 ∷ tenths n) (omega (arith, length-tenths n, length-decimal 3 (n / 10) (omega arith)))
length-rise (negsuc n) h = length_right 9 (45 ∷ tenths (suc n)) (omega (arith, length-tenths (suc n), length-decimal 3 (suc n / 10) (omega arith)))

pub length-bar : (n : ℕ) → n ≤ 25 → length (bar n) ≡ 26
unfolding bar
length-bar n h = simp length-append (omega (arith, length_left 25 (replicate n 35) (simp length-replicate h)))

-- ---- the bar

part_most : (d r : ℕ) → d ≤ r → (t : Bool) → eqb r 0 ≡ t → cond t 0 (25 * d / r) ≤ 25
part_most d r h true e = omega arith
part_most d r h false e = div-le_of_le-mul r (omega arith)

pub bar_most : (low high z : ℤ) → le_z low z ≡ true → le_z z high ≡ true → bar_length low high z ≤ 25
unfolding bar_length
bar_most low high z e f =
    let within : nat_abs (z -ℤ low) ≤ nat_abs (high -ℤ low) = omega (arith, gap low z e, gap low high (le_trans low z high e f), le_parts z high f) in
    part_most (nat_abs (z -ℤ low)) (nat_abs (high -ℤ low)) within (eqb (nat_abs (high -ℤ low)) 0) refl

module _ (low high : ℤ) where
  pub bar_flat : (z : ℤ) → nat_abs (high -ℤ low) ≡ 0 → 0 ≡ bar_length low high z
  unfolding bar_length
  bar_flat z h = rw (eq-eqb (nat_abs (high -ℤ low)) 0 h)

  pub bar_part : (z : ℤ) {d r : ℕ} → d ≡ nat_abs (z -ℤ low) → r ≡ nat_abs (high -ℤ low) → (r ≡ 0 → ⊥) → 25 * d / r ≡ bar_length low high z
  unfolding bar_length
  bar_part z e f h = rw (← e, ← f, ne_eqb _ 0 h)

-- the highest sample's bar fills its column, where the road is not flat
pub bar_highest : (low high : ℤ) → (nat_abs (high -ℤ low) ≡ 0 → ⊥) → bar_length low high high ≡ 25
unfolding bar_length
bar_highest low high h = rw (ne_eqb (nat_abs (high -ℤ low)) 0 h) (mul-div_cancel 25 (omega arith))

-- ---- lines

module _ (low high : ℤ) where
  pub page_line-length : (i : ℕ) (z : ℤ) → i < 501 → mag z < 32768 → le_z low z ≡ true → le_z z high ≡ true → length (page_line low high i z) ≡ 41
  unfolding page_line
  page_line-length i z l h e f = simp length-append (omega (arith, length-ahead i l, length-rise z h, length-bar (bar_length low high z) (bar_most low high z e f)))

pub heading_length : length page_heading ≡ 41
unfolding page_heading right_in bar left_in codes
heading_length = refl

lines_length : (row : ℕ → ℤ → List ℕ) (i : ℕ) (zs : List ℤ) → ((j : ℕ) → j < length zs → length (row (i + j) (get_or zs j (pos 0))) ≡ 41) → length (lines_by row i zs) ≡ 41 * length zs
unfolding lines_by
lines_length row i [] each = omega arith
lines_length row i (z ∷ zs) each =
    let first : length (row i z) ≡ 41 = rw (add-zero i) at (each 0 (omega arith)) in
    let rest : length (lines_by row (i + 1) zs) ≡ 41 * length zs = lines_length row (i + 1) zs (λ (j : ℕ) (h : j < length zs). rw (next j) at (each (suc j) (omega arith))) in
    simp length-append (omega (arith, first, rest))
  where
    next : (j : ℕ) → i + suc j ≡ i + 1 + j
    next j = omega arith

-- ---- pages

some_length : (k : ℕ) (zs : List ℤ) → length (take 50 (drop k zs)) ≤ length zs - k
some_length k zs = simp (length-take, length-drop) (omega arith)

some_at : (k j : ℕ) (zs : List ℤ) → j < length (take 50 (drop k zs)) → get_or (take 50 (drop k zs)) j (pos 0) ≡ get_or zs (k + j) (pos 0)
some_at k j zs h = get_or-take 50 (drop k zs) j (pos 0) (omega (arith, length-take 50 (drop k zs))) ∙ get_or-drop k zs j (pos 0)

-- "each line is exactly 40 characters and a line end", on every page of every road of 16-bit heights
pub page_length : (p : ℕ) (zs : List ℤ) → length zs ≤ 501 → ((i : ℕ) → mag (get_or zs i (pos 0)) < 32768) → length (page p zs) ≡ 41 + 41 * length (take 50 (drop (50 * p) zs))
unfolding page page_of
page_length p zs most fits =
    let each : (j : ℕ) → j < length (take 50 (drop (50 * p) zs)) → length (page_line (lowest zs) (highest zs) (50 * p + j) (get_or (take 50 (drop (50 * p) zs)) j (pos 0))) ≡ 41 =
    λ (j : ℕ) (h : j < length (take 50 (drop (50 * p) zs))).
    let there : 50 * p + j < length zs = omega (arith, some_length (50 * p) zs) in
    rw (some_at (50 * p) j zs h) (page_line-length (lowest zs) (highest zs) (50 * p + j) (get_or zs (50 * p + j) (pos 0)) (omega arith) (fits (50 * p + j)) (lowest_each zs (50 * p + j) there) (highest_each zs (50 * p + j) there))
    in
    simp length-append (omega (arith, heading_length, lines_length (page_line (lowest zs) (highest zs)) (50 * p) (take 50 (drop (50 * p) zs)) each))

take-nil : (k : ℕ) → ◌≡◌ {A = List ℤ} (take k []) []
take-nil zero = refl
take-nil (suc k) = refl

drop_past : (k : ℕ) (zs : List ℤ) → length zs ≤ k → drop k zs ≡ []
drop_past k [] h = drop-nil k
drop_past zero (z ∷ zs) h = absurd (omega arith)
drop_past (suc k) (z ∷ zs) h = drop_past k zs (omega arith)

-- "past the last sample it is the heading alone"
pub page_past : (p : ℕ) (zs : List ℤ) → length zs ≤ 50 * p → page p zs ≡ page_heading
unfolding page page_of lines_by
page_past p zs h = rw (drop_past (50 * p) zs h, append-nil)

-- the first of a page's samples and the one behind its last, as the code finds them
module _ (zs : List ℤ) (p : ℕ) where
  take_same : (n : ℕ) (xs : List ℤ) → n ≤ 50 → (n < 50 → n ≡ length xs) → take n xs ≡ take 50 xs
  take_same n xs h short = go (ltb n 50) refl
    where
      go : (t : Bool) → ltb n 50 ≡ t → take n xs ≡ take 50 xs
      go true e = let all : n ≡ length xs = short (ltb-true n 50 e) in take_all n xs (omega arith) ∙ sym (take_all 50 xs (omega arith))
      go false e = let full : n ≡ 50 = omega (arith, ltb-false n 50 e) in rw full

  here : (to : ℕ) → 50 * p ≤ length zs → 50 * p ≤ to → to ≤ 50 * p + 50 → (to < 50 * p + 50 → to ≡ length zs) → page_of zs (50 * p) (take (to - 50 * p) (drop (50 * p) zs)) ≡ page p zs
  unfolding page
  here to a b c d =
      rw (take_same (to - 50 * p) (drop (50 * p) zs) (omega arith) (λ (h : to - 50 * p < 50). let all : to ≡ length zs = d (omega arith) in simp length-drop (omega arith)))

  past : (from to : ℕ) → length zs ≤ from → length zs ≤ 50 * p → page_of zs from (take (to - from) (drop from zs)) ≡ page p zs
  unfolding page_of lines_by
  past from to a b = rw (drop_past from zs a, take-nil (to - from), page_past p zs b, append-nil)

  pub page_is : (from to : ℕ) → from ≤ 50 * p → from ≤ length zs → (from < 50 * p → from ≡ length zs) → from ≤ to → to ≤ from + 50 → (to < from + 50 → to ≡ length zs) → page_of zs from (take (to - from) (drop from zs)) ≡ page p zs
  page_is from to a b short c d less = go (ltb from (50 * p)) refl
    where
      go : (t : Bool) → ltb from (50 * p) ≡ t → page_of zs from (take (to - from) (drop from zs)) ≡ page p zs
      go true e = let end : from ≡ length zs = short (ltb-true from (50 * p) e) in past from to (omega arith) (omega (arith, ltb-true from (50 * p) e))
      go false e = let start : from ≡ 50 * p = omega (arith, ltb-false from (50 * p) e) in rw start (here to (omega arith) (omega arith) (omega arith) (λ (h : to < 50 * p + 50). less (omega arith)))

-- ---- the answer

module _ (zs : List ℤ) (p : ℕ) where
  pub too_many : (out : List ℕ) → 501 < length zs → (Err Refusal.BadState ≡ printed zs p (length out)) × (out ≡ written zs p out)
  unfolding printed written refusal
  too_many out h = rw (lt-ltb 501 (length zs) h) (refl, refl)

  module _ (few : length zs ≤ 501) (out : List ℕ) where
    pub too_short : length out < length (page p zs) → (Err Refusal.NoRoom ≡ printed zs p (length out)) × (out ≡ written zs p out)
    unfolding printed written refusal
    too_short h = rw (le-ltb 501 (length zs) few, lt-ltb (length out) (length (page p zs)) h) (refl, refl)

    pub fits : length (page p zs) ≤ length out → (Ok (length (page p zs)) ≡ printed zs p (length out)) × (page p zs ++ drop (length (page p zs)) out ≡ written zs p out)
    unfolding printed written refusal
    fits h = rw (le-ltb 501 (length zs) few, le-ltb (length out) (length (page p zs)) h) (refl, refl)

-- a page that was written has its place in the output
length_of : Result ℕ Refusal → ℕ
length_of (Ok n) = n
length_of (Err e) = 0

pub printed_fits : (zs : List ℤ) (p room : ℕ) {n : ℕ} → Ok n ≡ printed zs p room → n ≤ room
unfolding printed refusal length_of
printed_fits zs p room {n} e = rw (ap length_of e) (go (ltb 501 (length zs)) (ltb room (length (page p zs))) refl)
  where
    go : (s t : Bool) → ltb room (length (page p zs)) ≡ t → length_of (answer (cond s (Err Refusal.BadState) (cond t (Err Refusal.NoRoom) (Ok tt))) (length (page p zs))) ≤ room
    go true t e = omega arith
    go false true e = omega arith
    go false false e = ltb-false room (length (page p zs)) e
