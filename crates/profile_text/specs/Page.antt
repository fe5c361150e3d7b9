-- The printed profile page. Lines and columns, over the heights of the whole road in decimetres. Text is a list of ASCII codes.
use Rattle.std.specs.Prelude.{ℕ, ◌-◌, ◌*◌, ◌/◌, ◌%◌, cond, Result, Ok, Err, is_ok, List, [], ◌∷◌, ◌++◌, ltb, eqb, length, take, drop, replicate, ℤ, pos, negsuc, nat_abs, ◌-ℤ◌}
use Rattle.std.specs.Int.Signed.{lt_z}
use Rattle.profile_text.specs.Codes.{codes}
use Rattle.profile_text.specs.Text.{decimal, lines_by}
use Rattle.refusal.specs.declared.Refusal.{Refusal}

-- ---- columns

abbrev pub blanks : ℕ → List ℕ
blanks n = replicate n 32

-- right in n columns
unfoldable pub right_in : ℕ → List ℕ → List ℕ
right_in n text = blanks (n - length text) ++ text

-- filled with blanks to n columns
unfoldable pub left_in : ℕ → List ℕ → List ℕ
left_in n text = text ++ blanks (n - length text)

-- ---- the rise: "in metres with sign and one decimal"; zero is +0.0

unfoldable pub tenths : ℕ → List ℕ
tenths n = decimal (n / 10) ++ (46 ∷ decimal (n % 10))

abbrev pub sign : ℤ → ℕ
sign (pos n) = 43
sign (negsuc n) = 45

unfoldable pub rise : ℤ → List ℕ
rise z = sign z ∷ tenths (nat_abs z)

-- ---- the bar: "25 times the rise above the lowest sample of the whole road, divided by its height range, cut to a whole number; a flat road has no bar"

abbrev pub lesser : ℤ → ℤ → ℤ
lesser a b = cond (lt_z b a) b a

abbrev pub greater : ℤ → ℤ → ℤ
greater a b = cond (lt_z a b) b a

unfoldable pub lowest_of : ℤ → List ℤ → ℤ
lowest_of low [] = low
lowest_of low (z ∷ zs) = lowest_of (lesser low z) zs

unfoldable pub highest_of : ℤ → List ℤ → ℤ
highest_of high [] = high
highest_of high (z ∷ zs) = highest_of (greater high z) zs

-- a road with no sample has no line either
unfoldable pub lowest : List ℤ → ℤ
lowest [] = pos 0
lowest (z ∷ zs) = lowest_of z zs

unfoldable pub highest : List ℤ → ℤ
highest [] = pos 0
highest (z ∷ zs) = highest_of z zs

unfoldable pub bar_length : ℤ → ℤ → ℤ → ℕ
bar_length low high z = cond (eqb (nat_abs (high -ℤ low)) 0) 0 (25 * nat_abs (z -ℤ low) / nat_abs (high -ℤ low))

-- ---- lines: "exactly 40 characters and a line end"

-- "metres ahead, right in 6", 20 a sample
unfoldable pub ahead : ℕ → List ℕ
ahead i = right_in 6 (decimal (20 * i))

-- "a bar of `#` in 25, filled with blanks", and the line end
unfoldable pub bar : ℕ → List ℕ
bar n = left_in 25 (replicate n 35) ++ (10 ∷ [])

unfoldable pub page_line : ℤ → ℤ → ℕ → ℤ → List ℕ
page_line low high i z = ahead i ++ (right_in 9 (rise z) ++ bar (bar_length low high z))

-- "ahead" and "rise", "right in their columns, and 25 blanks"
unfoldable pub page_heading : List ℕ
page_heading = right_in 6 (codes "ahead") ++ (right_in 9 (codes "rise") ++ bar 0)

-- ---- pages

-- the heading and the lines of some samples of a road, numbered from i on
unfoldable pub page_of : List ℤ → ℕ → List ℤ → List ℕ
page_of zs i some = page_heading ++ lines_by (page_line (lowest zs) (highest zs)) i some

-- "the samples 50 × p to 50 × p + 49 that exist"
unfoldable pub page : ℕ → List ℤ → List ℕ
page p zs = page_of zs (50 * p) (take 50 (drop (50 * p) zs))

-- ---- the answer

-- more samples than a road has; output too short
unfoldable pub refusal : List ℤ → ℕ → ℕ → Result Unit Refusal
refusal zs p room = cond (ltb 501 (length zs)) (Err Refusal.BadState) (cond (ltb room (length (page p zs))) (Err Refusal.NoRoom) (Ok tt))

abbrev pub answer : Result Unit Refusal → ℕ → Result ℕ Refusal
answer (Ok u) n = Ok n
answer (Err e) n = Err e

-- the page's length
unfoldable pub printed : List ℤ → ℕ → ℕ → Result ℕ Refusal
printed zs p room = answer (refusal zs p room) (length (page p zs))

-- the output begins with the page and is else as it was; refused, it is all as it was
unfoldable pub written : List ℤ → ℕ → List ℕ → List ℕ
written zs p out = cond (is_ok (refusal zs p (length out))) (page p zs ++ drop (length (page p zs)) out) out
