-- Laws of the whole root: what it is, that it is the only one, and how further digits of it are found from the remainder.
use Rattle.std.proofs.Common.{◌≡◌, ℕ, zero, suc, ◌+◌, ◌-◌, ◌*◌, ◌/◌, ◌^◌, ◌<◌, ◌≤◌, Bool, true, false, cond, leb, ◌⊎◌, refl, ap, ◌∙◌, inl, inr, le_of_suc-le-suc, mul-le-mul_right, mul-le-mul, le_antisymm, mul-le-mul_left, mul-pos, pow-suc, lt_of_not-le, arith, pow_mono, leb-false, leb-true}
use lib.Ieee.{size}
use lib.Ieee.Digits.{size-lt}
use Rattle.num.specs.Root.{square, digit, root_in, whole_root}

-- r is the whole root of n
abbrev pub IsRoot : ℕ → ℕ → Type 0
IsRoot n r = (square r ≤ n) × (n < square (r + 1))

-- ---- it is one

digit_is : (n r : ℕ) → IsRoot (n / 4) r → IsRoot n (digit n r)
digit_is n r h = go (leb (square (2 * r + 1)) n) refl
  where
    go : (b : Bool) → leb (square (2 * r + 1)) n ≡ b → IsRoot n (cond b (2 * r + 1) (2 * r))
    go true e = (leb-true (square (2 * r + 1)) n e, omega arith)
    go false e = (omega arith, leb-false (square (2 * r + 1)) n e)

root_in_lem : (d n : ℕ) → n < 2 ^ (2 * d) → IsRoot n (root_in d n)
unfolding root_in
root_in_lem zero n h = (omega arith, omega arith)
root_in_lem (suc d) n h =
    let e : 2 * suc d ≡ suc (suc (2 * d)) = omega arith in
    let p : 2 ^ (2 * suc d) ≡ 2 ^ (2 * d) * 2 * 2 = ap (λ (k : ℕ). 2 ^ k) e ∙ pow-suc 2 (suc (2 * d)) ∙ ap (λ (k : ℕ). k * 2) (pow-suc 2 (2 * d)) in
    digit_is n (root_in d (n / 4)) (root_in_lem d (n / 4) (omega arith))

pow_grows : (k : ℕ) → 2 ^ k ≤ 2 ^ (2 * k)
pow_grows k = pow_mono (omega arith)

pub root_is : (n : ℕ) → IsRoot n (whole_root n)
unfolding whole_root
root_is n = root_in_lem (size n) n (omega (arith, size-lt n, pow_grows (size n)))

pub root_low : (n : ℕ) → square (whole_root n) ≤ n
root_low n = (root_is n).0

pub root_high : (n : ℕ) → n < square (whole_root n + 1)
root_high n = (root_is n).1

-- ---- and there is no other

pub below : (n r s : ℕ) → square r ≤ n → n < square (s + 1) → r ≤ s
below n r s h l =
    let f : suc s ≤ r → ⊥ = λ g. absurd (omega (arith, mul-le-mul {n₁ = suc s} {m₁ = suc s} {n₂ = r} {m₂ = r} g g)) in
    le_of_suc-le-suc (lt_of_not-le f)

pub root_only : (n r : ℕ) → IsRoot n r → r ≡ whole_root n
root_only n r h =
    let w : IsRoot n (whole_root n) = root_is n in
    le_antisymm (below n r (whole_root n) h.0 w.1) (below n (whole_root n) r w.0 h.1)

-- ---- root and remainder: r² + m is the number whose digits came so far

abbrev pub Digits : ℕ → ℕ → ℕ → Type 0
Digits n r m = (square r + m ≡ n) × (m ≤ 2 * r)

pub digits_root : (n r m : ℕ) → Digits n r m → r ≡ whole_root n
digits_root n r m d = root_only n r (omega arith, omega arith)

-- a root lies between those of two squares that its number lies between
pub digits_in : (n r m low high : ℕ) → Digits n r m → square low ≤ n → n < square (high + 1) → (low ≤ r) × (r ≤ high)
digits_in n r m low high d h l = (below n low r h (omega arith), below n r high (omega arith) l)

-- what `root::below` gives
abbrev pub Below : ℕ → ℕ → ℕ → Type 0
Below a b d = ((a < b) × (d ≡ 1)) ⊎ ((b ≤ a) × (d ≡ 0))

-- ---- the first digits: the line from (64, 8) to (256, 16) lies below the root, by less than 1

abbrev pub line : ℕ → ℕ
line x = (x + 128) / 24

-- (i - 2)² + 8 is not below 0: the curve leaves the line by less than 1
bend : (i : ℕ) → 4 * i ≤ 12 + i * i
bend zero = omega arith
bend (suc zero) = omega arith
bend (suc (suc zero)) = omega arith
bend (suc (suc (suc i))) = omega arith

pub line_is : (x : ℕ) → 64 ≤ x → x < 256 → (square (line x) ≤ x) × ((x < square (line x + 2)) × (line x < 16))
line_is x h l =
    let i : ℕ = (x + 128) / 24 - 8 in
    let e : (x + 128) / 24 ≡ 8 + i = omega arith in
    let low : i * i ≤ 8 * i = mul-le-mul_right i (omega arith) in
    (omega (arith, ap square e, low), (omega (arith, ap square e, bend i), omega arith))

-- the first root and remainder, where d is 1 if the line gives one too few
pub first_is : (x d : ℕ) → 64 ≤ x → x < 256 → Below (line x * (line x + 2)) x d → (d ≤ 1) × (((line x + d) * (line x + d) ≤ x) × Digits x (line x + d) (x - (line x + d) * (line x + d)))
first_is x d h l b = go (line x) (line_is x h l) d b
  where
    go : (w : ℕ) → (square w ≤ x) × ((x < square (w + 2)) × (w < 16)) → (d : ℕ) → Below (w * (w + 2)) x d
        → (d ≤ 1) × (((w + d) * (w + d) ≤ x) × Digits x (w + d) (x - (w + d) * (w + d)))
    go w k d (inl t) = rw t.1 (omega arith, (omega arith, (omega arith, omega arith)))
    go w k d (inr t) = rw t.1 (omega arith, (omega arith, (omega arith, omega arith)))

-- ---- further digits: the number's next come as h and l, both below b; the remainder with h, divided by twice the root, is q, and u is left

-- what `root::longer` asks for
abbrev pub Step : ℕ → ℕ → ℕ → ℕ → ℕ → Type 0
Step r m b h l = (m ≤ 2 * r) × ((r < 8192) × ((b ≤ 4096) × ((b ≤ r) × ((h < b) × (l < b)))))

-- every number of the step has at most 28 digits
pub record Bounds (r m b l q u : ℕ) : Type 0 where
  pub rest : m * b ≤ 2 ^ 26
  pub whole : r * b ≤ 2 ^ 25
  pub some : 0 < r * b
  pub next : q ≤ b
  pub taken : q * q ≤ r * b
  pub left : u * b + l < r * 2 * b

-- the number with its further digits
abbrev pub grown : ℕ → ℕ → ℕ → ℕ → ℕ → ℕ
grown r m b h l = (square r + m) * (b * b) + h * b + l

-- its root and remainder, where d is 1 for one too many
pub record Longer (r m b h l q u d : ℕ) : Type 0 where
  pub most : d ≤ 1
  pub extra : d * ((r * b + q) * 2 - 1) ≤ 2 ^ 27
  pub enough : q * q ≤ u * b + l + d * ((r * b + q) * 2 - 1)
  pub digits : Digits (grown r m b h l) (r * b + q - d) (u * b + l + d * ((r * b + q) * 2 - 1) - q * q)

moved : (n r m r' m' : ℕ) → r' ≡ r → m' ≡ m → Digits n r m → Digits n r' m'
moved n r m r' m' e f d = rw (e, f) d

module _ (r m b h l q u : ℕ) (s : Step r m b h l) (parted : r * 2 * q + u ≡ m * b + h) (less : u < r * 2) where
  pub bounds : Bounds r m b l q u
  bounds =
      let wide : m * b ≤ 2 * r * b = mul-le-mul_right b s.0 in
      let f : suc b ≤ q → ⊥ = λ g. absurd (omega (arith, wide, mul-le-mul_left (r * 2) g)) in
      let t : q ≤ b = le_of_suc-le-suc (lt_of_not-le f) in
      record {
        rest = omega (arith, mul-le-mul {n₁ = m} {m₁ = b} {n₂ = 2 ^ 14} {m₂ = 2 ^ 12} (omega arith) (omega arith));
        whole = omega (arith, mul-le-mul {n₁ = r} {m₁ = b} {n₂ = 2 ^ 13} {m₂ = 2 ^ 12} (omega arith) (omega arith));
        some = mul-pos {m = r} {n = b} (omega arith) (omega arith);
        next = t;
        taken = omega (arith, mul-le-mul t t, mul-le-mul_right b s.1.1.1.0);
        left = omega (arith, mul-le-mul_right {m = suc u} {n = r * 2} b less);
      }

  as_found : q * q ≤ u * b + l → Digits (grown r m b h l) (r * b + q) (u * b + l - q * q)
  as_found t = (omega (arith, ap (λ (x : ℕ). x * b) parted), omega (arith, bounds.left))

  one_less : u * b + l < q * q → Digits (grown r m b h l) (r * b + q - 1) (u * b + l + ((r * b + q) * 2 - 1) - q * q)
  one_less t =
      let k : Bounds r m b l q u = bounds in
      let w : ℕ = r * b + q - 1 in
      let e : w + 1 ≡ r * b + q = omega arith in
      (omega (arith, ap (λ (x : ℕ). x * b) parted, ap square e), omega arith)

  pub longer_is : (d : ℕ) → Below (u * b + l) (q * q) d → Longer r m b h l q u d
  longer_is d (inl t) =
      let k : Bounds r m b l q u = bounds in
      let w : ℕ = (r * b + q) * 2 - 1 in
      let e : d * ((r * b + q) * 2 - 1) ≡ w = ap (λ (x : ℕ). x * ((r * b + q) * 2 - 1)) t.1 ∙ omega arith in
      record {
        most = omega arith;
        extra = omega arith;
        enough = omega arith;
        digits = moved (grown r m b h l) (r * b + q - 1) (u * b + l + w - q * q) _ _ (omega arith) (omega arith) (one_less t.0);
      }
  longer_is d (inr t) =
      let e : d * ((r * b + q) * 2 - 1) ≡ 0 = ap (λ (x : ℕ). x * ((r * b + q) * 2 - 1)) t.1 ∙ omega arith in
      record {
        most = omega arith;
        extra = omega arith;
        enough = omega arith;
        digits = moved (grown r m b h l) (r * b + q) (u * b + l - q * q) _ _ (omega arith) (omega arith) (as_found t.0);
      }
