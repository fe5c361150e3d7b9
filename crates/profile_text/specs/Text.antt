-- What the program `profile` prints, from the bytes of its input. Text is a list of ASCII codes.
use Rattle.std.specs.Prelude.{ℕ, zero, suc, ◌+◌, ◌-◌, ◌*◌, ◌/◌, ◌%◌, ◌≤◌, ◌≡◌, ◌&&◌, cond, List, [], ◌∷◌, ◌++◌, leb, ltb, eqb, length, ℤ, pos, negsuc, neg_ℤ, nat_abs, ◌-ℤ◌, ◌*ℤ◌}
use Rattle.num.specs.Cast.{signed16}
use Rattle.profile_text.specs.Codes.{codes}

-- ---- numbers

-- n in decimal with no leading zeros, where k digits are enough
unfoldable pub digits : ℕ → ℕ → List ℕ
digits zero n = []
digits (suc k) n = cond (ltb n 10) ((48 + n) ∷ []) (digits k (n / 10) ++ ((48 + n % 10) ∷ []))

-- 20 are enough for 64 bits
unfoldable pub decimal : ℕ → List ℕ
decimal n = digits 20 n

-- with a '-' before a negative one
abbrev pub signed : ℤ → List ℕ
signed (pos n) = decimal n
signed (negsuc n) = 45 ∷ decimal (suc n)

-- ---- whole metres, rounded to nearest, halves away from zero

-- m is the whole number of metres nearest to z decimetres; of two as near it is the one further from zero
pub record Rounded (z m : ℤ) : Type 0 where
  pub near : (k : ℤ) → nat_abs (z -ℤ pos 10 *ℤ m) ≤ nat_abs (z -ℤ pos 10 *ℤ k)
  pub tie : (k : ℤ) → nat_abs (z -ℤ pos 10 *ℤ k) ≡ nat_abs (z -ℤ pos 10 *ℤ m) → nat_abs k ≤ nat_abs m

-- of the whole metres on either side of n decimetres the nearer, at a tie the greater
abbrev pub nearer : ℕ → ℕ
nearer n = cond (ltb (n - 10 * (n / 10)) (10 * (n / 10 + 1) - n)) (n / 10) (n / 10 + 1)

-- the metres that are `Rounded`: `whole_metres_rounded` and `rounded_only` of proofs/Rounding
abbrev pub whole_metres : ℤ → ℤ
whole_metres (pos n) = pos (nearer n)
whole_metres (negsuc n) = neg_ℤ (pos (nearer (suc n)))

-- ---- lines

-- metres ahead, 20 a sample; a blank; the rise; a line end
unfoldable pub line : ℕ → ℤ → List ℕ
line i z = decimal (20 * i) ++ (32 ∷ (signed (whole_metres z) ++ (10 ∷ [])))

-- the lines of samples that are numbered from i on
unfoldable pub lines_by : (ℕ → ℤ → List ℕ) → ℕ → List ℤ → List ℕ
lines_by row i [] = []
lines_by row i (z ∷ zs) = row i z ++ lines_by row (i + 1) zs

abbrev pub lines : ℕ → List ℤ → List ℕ
lines i zs = lines_by line i zs

-- ---- the input

-- signed 16-bit numbers, the low byte first
unfoldable pub samples : List ℕ → List ℤ
samples [] = []
samples (lo ∷ []) = []
samples (lo ∷ hi ∷ bs) = signed16 (lo + hi * 256) ∷ samples bs

unfoldable pub heading : List ℕ
heading = codes "distance rise\n"

unfoldable pub bad_input : List ℕ
bad_input = codes "bad input\n"

-- up to 501 samples and no odd byte; no input is the heading alone
unfoldable pub profile : List ℕ → List ℕ
profile bs = cond (leb (length bs) 1002 && eqb (length bs % 2) 0) (heading ++ lines 0 (samples bs)) bad_input
