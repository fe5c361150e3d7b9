-- Laws of the casts, those of a float for any width. A clamp of a float to the range before the cast changes nothing (`signed_clamped`).
-- A cast to fewer bits is the cast to more, held to the smaller range (`signed_held`, `unsigned_held`; of an i64 that the code read and std's `clamp` held, `signed_narrowed`, `unsigned_narrowed`).
use Rattle.std.proofs.Common.{◌≡◌, ℕ, zero, suc, ◌-◌, ◌*◌, ◌/◌, ◌^◌, ◌≤◌, min, Bool, true, false, cond, ltb, ℤ, pos, negsuc, neg_ℤ, sym, refl, ap, ◌∙◌, true≢false, le-div_iff_mul-le, arith, pow_pos, pow_mono, to_z-of_z, w64, to_z, of_z, ltb-false, ltb-true, le-ltb}
use lib.Signed.{lt_z, le_z}
use lib.Ieee.{Float, nan, inf, fin, up, down, lt, to_signed, to_unsigned}
use lib.Ieee.Casts.{to_signed_in}
use lib.Ieee.Fits.{down_pos}
use Rattle.std.specs.Int.{int_min, int_max}
use Rattle.std.proofs.lemmas.Int.{ints}
use Rattle.num.specs.Order.{clamp}

-- ---- a float held to the range before the cast, which holds it by itself

past : (n m : ℕ) (e : ℤ) → n * down e ≤ m * up e → n ≤ m * up e / down e
past n m e h = (le-div_iff_mul-le (down_pos e)).1 h

module _ (h : ℕ) where
  -- the ends of the range
  abbrev least : Float
  least = fin true 1 (pos h)

  abbrev most : Float
  most = fin false (2 ^ h - 1) (pos 0)

  under : (x : Float) → lt x least ≡ true → to_signed h least ≡ to_signed h x
  unfolding lt to_signed
  under nan l = absurd (true≢false (sym l))
  under (inf true) l = ap (λ n. neg_ℤ (pos n)) {x = min (1 * 2 ^ h / 1) (2 ^ h)} {y = 2 ^ h} (omega arith)
  under (inf false) l = absurd (true≢false (sym l))
  under (fin true m e) l =
      let far : 2 ^ h ≤ m * up e / down e = past (2 ^ h) m e (omega (arith, ltb-true (1 * 2 ^ h * down e) (m * up e * 1) l)) in
      ap (λ n. neg_ℤ (pos n)) {x = min (1 * 2 ^ h / 1) (2 ^ h)} {y = min (m * up e / down e) (2 ^ h)} (omega arith)
  under (fin false m e) l = absurd (true≢false (sym l))

  over : (x : Float) → lt most x ≡ true → to_signed h most ≡ to_signed h x
  unfolding lt to_signed
  over nan l = absurd (true≢false (sym l))
  over (inf true) l = absurd (true≢false (sym l))
  over (inf false) l = ap pos {x = min ((2 ^ h - 1) * 1 / 1) (2 ^ h - 1)} {y = 2 ^ h - 1} (omega arith)
  over (fin true m e) l = absurd (true≢false (sym l))
  over (fin false m e) l =
      let far : 2 ^ h - 1 ≤ m * up e / down e = past (2 ^ h - 1) m e (omega (arith, ltb-true ((2 ^ h - 1) * 1 * down e) (m * up e * 1) l)) in
      ap pos {x = min ((2 ^ h - 1) * 1 / 1) (2 ^ h - 1)} {y = min (m * up e / down e) (2 ^ h - 1)} (omega arith)

  pub signed_clamped : (x : Float) → to_signed h (clamp x least most) ≡ to_signed h x
  signed_clamped x = go (lt x least) (lt most x) refl refl
    where
      go : (low high : Bool) → lt x least ≡ low → lt most x ≡ high → to_signed h (cond low least (cond high most x)) ≡ to_signed h x
      go true high l g = under x l
      go false true l g = over x g
      go false false l g = refl

-- ---- a cast to fewer bits

-- t, or the end of lo to hi that it lies beyond
abbrev pub held : ℤ → ℤ → ℤ → ℤ
held lo hi t = cond (lt_z t lo) lo (cond (lt_z hi t) hi t)

-- what std's `clamp` answers
pub held_is : (lo hi t : ℤ) → le_z lo hi ≡ true → held lo hi t ≡ int_max lo (int_min t hi)
held_is lo hi t h = go (lt_z t lo) (lt_z hi t) refl refl
  where
    go : (a b : Bool) → lt_z t lo ≡ a → lt_z hi t ≡ b → cond a lo (cond b hi t) ≡ int_max lo (cond b hi t)
    go true true p q = absurd (grind (arith, ints))
    go true false p q = rw p
    go false true p q = grind (arith, ints)
    go false false p q = grind (arith, ints)

none_below : (n : ℕ) → ltb n 0 ≡ false
none_below n = le-ltb n 0 (omega arith)

held_up : (lo : ℤ) (q n r : ℕ) → lt_z (pos n) lo ≡ false → r ≡ min n q → held lo (pos q) (pos n) ≡ pos r
held_up lo q n r e is = rw e (go (ltb q n) refl)
  where
    go : (b : Bool) → ltb q n ≡ b → cond b (pos q) (pos n) ≡ pos r
    go true l = ap pos (omega (arith, ltb-true q n l))
    go false l = ap pos (omega (arith, ltb-false q n l))

held_down : (q n r : ℕ) → r ≡ min n (suc q) → held (negsuc q) (pos q) (neg_ℤ (pos n)) ≡ neg_ℤ (pos r)
held_down q zero zero is = held_up (negsuc q) q 0 0 refl (omega arith)
held_down q zero (suc r) is = absurd (omega arith)
held_down q (suc n) zero is = absurd (omega arith)
held_down q (suc n) (suc r) is = go (ltb q n) refl
  where
    go : (b : Bool) → ltb q n ≡ b → cond b (negsuc q) (negsuc n) ≡ negsuc r
    go true l = ap negsuc (omega (arith, ltb-true q n l))
    go false l = ap negsuc (omega (arith, ltb-false q n l))

held_none : (q n : ℕ) → held (pos 0) (pos q) (neg_ℤ (pos n)) ≡ pos 0
held_none q zero = held_up (pos 0) q 0 0 refl (omega arith)
held_none q (suc n) = refl

module _ {k h : ℕ} (less : h ≤ k) where
  pub signed_held : (x : Float) → held (negsuc (2 ^ h - 1)) (pos (2 ^ h - 1)) (to_signed k x) ≡ to_signed h x
  unfolding to_signed
  signed_held nan = held_up (negsuc (2 ^ h - 1)) (2 ^ h - 1) 0 0 refl (omega arith)
  signed_held (inf true) = held_down (2 ^ h - 1) (2 ^ k) (2 ^ h) (omega (arith, pow_pos h, pow_mono less))
  signed_held (inf false) = held_up (negsuc (2 ^ h - 1)) (2 ^ h - 1) (2 ^ k - 1) (2 ^ h - 1) refl (omega (arith, pow_mono less))
  signed_held (fin true m e) = held_down (2 ^ h - 1) (min (m * up e / down e) (2 ^ k)) (min (m * up e / down e) (2 ^ h)) (omega (arith, pow_pos h, pow_mono less))
  signed_held (fin false m e) = held_up (negsuc (2 ^ h - 1)) (2 ^ h - 1) (min (m * up e / down e) (2 ^ k - 1)) (min (m * up e / down e) (2 ^ h - 1)) refl (omega (arith, pow_mono less))

  pub unsigned_held : (x : Float) → held (pos 0) (pos (2 ^ h - 1)) (to_signed k x) ≡ pos (to_unsigned h x)
  unfolding to_signed to_unsigned
  unsigned_held nan = held_up (pos 0) (2 ^ h - 1) 0 0 refl (omega arith)
  unsigned_held (inf true) = held_none (2 ^ h - 1) (2 ^ k)
  unsigned_held (inf false) = held_up (pos 0) (2 ^ h - 1) (2 ^ k - 1) (2 ^ h - 1) (none_below (2 ^ k - 1)) (omega (arith, pow_mono less))
  unsigned_held (fin true m e) = held_none (2 ^ h - 1) (min (m * up e / down e) (2 ^ k))
  unsigned_held (fin false m e) = held_up (pos 0) (2 ^ h - 1) (min (m * up e / down e) (2 ^ k - 1)) (min (m * up e / down e) (2 ^ h - 1)) (none_below (min (m * up e / down e) (2 ^ k - 1))) (omega (arith, pow_mono less))

-- the same of the cast to 63 bits and a sign, read back from an i64
module _ (h : ℕ) (less : h ≤ 63) (x : Float) (t : ℤ) (is : t ≡ to_signed 63 x) where
  read_back : to_z w64 (of_z w64 t) ≡ to_signed 63 x
  read_back = rw is (to_z-of_z {w = w64} (record { sfits = to_signed_in 63 x }))

  pub signed_narrowed : le_z (negsuc (2 ^ h - 1)) (pos (2 ^ h - 1)) ≡ true → int_max (negsuc (2 ^ h - 1)) (int_min (to_z w64 (of_z w64 t)) (pos (2 ^ h - 1))) ≡ to_signed h x
  signed_narrowed o = sym (held_is (negsuc (2 ^ h - 1)) (pos (2 ^ h - 1)) (to_z w64 (of_z w64 t)) o) ∙ rw read_back (signed_held less x)

  pub unsigned_narrowed : le_z (pos 0) (pos (2 ^ h - 1)) ≡ true → int_max (pos 0) (int_min (to_z w64 (of_z w64 t)) (pos (2 ^ h - 1))) ≡ pos (to_unsigned h x)
  unsigned_narrowed o = sym (held_is (pos 0) (pos (2 ^ h - 1)) (to_z w64 (of_z w64 t)) o) ∙ rw read_back (unsigned_held less x)
