-- Laws of the division: sums, its linearity, bits of numbers, and some bits of the message at once.
use Prim.Native.Nat.{ℕ, zero, suc, ◌+◌, ◌-◌, ◌*◌, ◌/◌, ◌%◌, ◌^◌, ◌≤◌, ◌<◌, min}
use mathlib.Core.Path.{◌≡◌, refl, sym, ap, ap₂, ◌∙◌}
use mathlib.Core.Bool.{Bool, true, false, not, cond}
use mathlib.Core.List.{List, [], ◌∷◌, ◌++◌, map, append_assoc, append-nil}
use native.Mathlib.Nat.{add-zero, add-suc, pow-suc, div-eq_of_lt, min-eq_left, min-eq_right, le_of_lt}
use native.Mathlib.Omega.{arith}
use lib.ListN.{length, take, drop, length-append, length-take, length-drop, drop_of_length-le, replicate, length-replicate}
use lib.Dec.{eqb, leb}
use borrow.Author.Tests.{leb-true, leb-false}
use lib.Pow.{shr-shr, mod-mod-pow, field, low, high}
use lib.Bits.{bit_xor, xor_shr, xor_mod, xor_zero_r}
use lib.Seq.{drop-drop, take_all}
use Rattle.crc.specs.Fcs.{plus, add, lower, divide, remainder, zeros, bits, number, message, fcs, crc32, zeroed}
use Rattle.crc.specs.Register.{left, half, Takes, TakesWord}

-- ---- sums

plus_comm : (a b : Bool) → plus a b ≡ plus b a
plus_comm true true = refl
plus_comm true false = refl
plus_comm false true = refl
plus_comm false false = refl

plus_assoc : (a b c : Bool) → plus (plus a b) c ≡ plus a (plus b c)
plus_assoc false b c = refl
plus_assoc true false c = refl
plus_assoc true true true = refl
plus_assoc true true false = refl

plus_cancel : (a b c : Bool) → plus (plus a b) (plus a c) ≡ plus b c
plus_cancel false b c = refl
plus_cancel true true true = refl
plus_cancel true true false = refl
plus_cancel true false true = refl
plus_cancel true false false = refl

pub add_comm : (p q : List Bool) → add p q ≡ add q p
unfolding add
add_comm [] [] = refl
add_comm [] (b ∷ q) = refl
add_comm (a ∷ p) [] = refl
add_comm (a ∷ p) (b ∷ q) = ap₂ ◌∷◌ (plus_comm a b) (add_comm p q)

pub add_assoc : (p q r : List Bool) → add (add p q) r ≡ add p (add q r)
unfolding add
add_assoc [] q r = refl
add_assoc (a ∷ p) [] r = refl
add_assoc (a ∷ p) (b ∷ q) [] = refl
add_assoc (a ∷ p) (b ∷ q) (c ∷ r) = ap₂ ◌∷◌ (plus_assoc a b c) (add_assoc p q r)

add_swap : (p g q : List Bool) → add p (add g q) ≡ add g (add p q)
add_swap p g q = sym (add_assoc p g q) ∙ ap (λ (x : List Bool). add x q) (add_comm p g) ∙ add_assoc g p q

pub add_cancel : (g p q : List Bool) → length g ≤ length p → length g ≤ length q → add (add g p) (add g q) ≡ add p q
unfolding add
add_cancel [] p q h l = refl
add_cancel (a ∷ g) [] q h l = absurd (omega arith)
add_cancel (a ∷ g) (b ∷ p) [] h l = absurd (omega arith)
add_cancel (a ∷ g) (b ∷ p) (c ∷ q) h l = ap₂ ◌∷◌ (plus_cancel a b c) (add_cancel g p q (omega arith) (omega arith))

pub add-length : (g p : List Bool) → length g ≤ length p → length (add g p) ≡ length p
unfolding add
add-length [] p h = refl
add-length (a ∷ g) [] h = absurd (omega arith)
add-length (a ∷ g) (b ∷ p) h = ap suc (add-length g p (omega arith))

-- zeros under a polynomial, and after one
pub add-zeros : (n : ℕ) (p : List Bool) → n ≤ length p → add (zeros n) p ≡ p
unfolding add zeros
add-zeros zero p h = refl
add-zeros (suc n) [] h = absurd (omega arith)
add-zeros (suc n) (a ∷ p) h = ap (λ (x : List Bool). a ∷ x) (add-zeros n p (omega arith))

pub add_tail : (p q : List Bool) (n : ℕ) → length q + n ≤ length p → add (q ++ zeros n) p ≡ add q p
unfolding add
add_tail p [] n h = add-zeros n p (omega arith)
add_tail [] (b ∷ q) n h = absurd (omega arith)
add_tail (a ∷ p) (b ∷ q) n h = ap (λ (x : List Bool). plus b a ∷ x) (add_tail p q n (omega arith))

pub add-append : (p q r s : List Bool) → length p ≡ length q → add (p ++ r) (q ++ s) ≡ add p q ++ add r s
unfolding add
add-append [] [] r s e = refl
add-append [] (b ∷ q) r s e = absurd (omega arith)
add-append (a ∷ p) [] r s e = absurd (omega arith)
add-append (a ∷ p) (b ∷ q) r s e = ap (λ (x : List Bool). plus a b ∷ x) (add-append p q r s (omega arith))

pub zeros-length : (n : ℕ) → length (zeros n) ≡ n
unfolding zeros
zeros-length n = length-replicate n false

-- ---- the division is linear

pub lower-length : length lower ≡ 32
unfolding lower
lower-length = refl

pub linear : (k : ℕ) (p q : List Bool) → k + 32 ≤ length p → k + 32 ≤ length q → divide k (add p q) ≡ add (divide k p) (divide k q)
unfolding divide add
linear zero p q h l = refl
linear (suc k) [] q h l = absurd (omega arith)
linear (suc k) (a ∷ p) [] h l = absurd (omega arith)
linear (suc k) (false ∷ p) (false ∷ q) h l = linear k p q (omega arith) (omega arith)
linear (suc k) (true ∷ p) (false ∷ q) h l =
    rw (← add_assoc lower p q) (linear k (add lower p) q (omega (arith, add-length lower p (omega (arith, lower-length)))) (omega arith))
linear (suc k) (false ∷ p) (true ∷ q) h l =
    rw (← add_swap p lower q) (linear k p (add lower q) (omega arith) (omega (arith, add-length lower q (omega (arith, lower-length)))))
linear (suc k) (true ∷ p) (true ∷ q) h l =
    rw (← add_cancel lower p q (omega (arith, lower-length)) (omega (arith, lower-length)))
    (linear k (add lower p) (add lower q) (omega (arith, add-length lower p (omega (arith, lower-length)))) (omega (arith, add-length lower q (omega (arith, lower-length)))))

divide-nil : (k : ℕ) → divide k [] ≡ []
unfolding divide
divide-nil zero = refl
divide-nil (suc k) = refl

pub divide_more : (k j : ℕ) (p : List Bool) → divide (k + j) p ≡ divide k (divide j p)
unfolding divide add
divide_more k zero p = rw (add-zero k)
divide_more k (suc j) [] = rw (add-suc k j) (sym (divide-nil k))
divide_more k (suc j) (false ∷ p) = rw (add-suc k j) (divide_more k j p)
divide_more k (suc j) (true ∷ p) = rw (add-suc k j) (divide_more k j (add lower p))

pub divide-zeros : (j : ℕ) (p : List Bool) → divide j (zeros j ++ p) ≡ p
unfolding divide zeros
divide-zeros zero p = refl
divide-zeros (suc j) p = divide-zeros j p

pub add_more : (g p q : List Bool) → length g ≤ length p → add g (p ++ q) ≡ add g p ++ q
unfolding add
add_more [] p q h = refl
add_more (a ∷ g) [] q h = absurd (omega arith)
add_more (a ∷ g) (b ∷ p) q h = ap (λ (l : List Bool). plus a b ∷ l) (add_more g p q (omega arith))

-- what is left of the division is not reached by it
pub divide-append : (k : ℕ) (p q : List Bool) → k + 32 ≤ length p → divide k (p ++ q) ≡ divide k p ++ q
unfolding divide add
divide-append zero p q h = refl
divide-append (suc k) [] q h = absurd (omega arith)
divide-append (suc k) (false ∷ p) q h = divide-append k p q (omega arith)
divide-append (suc k) (true ∷ p) q h =
    rw (add_more lower p q (omega (arith, lower-length))) (divide-append k (add lower p) q (omega (arith, add-length lower p (omega (arith, lower-length)))))

pub divide-length : (k : ℕ) (p : List Bool) → k + 32 ≤ length p → length (divide k p) + k ≡ length p
unfolding divide add
divide-length zero p h = omega arith
divide-length (suc k) [] h = absurd (omega arith)
divide-length (suc k) (false ∷ p) h = omega (arith, divide-length k p (omega arith))
divide-length (suc k) (true ∷ p) h =
    let same : length (add lower p) ≡ length p = add-length lower p (omega (arith, lower-length)) in
    omega (arith, same, divide-length k (add lower p) (omega (arith, same)))

apart : (n : ℕ) (x y : List Bool) → n ≤ length y → add (zeros (length x) ++ y) (x ++ zeros n) ≡ x ++ y
unfolding add zeros
apart n [] y h = add_comm y (zeros n) ∙ add-zeros n y h
apart n (a ∷ x) y h = ap (λ (l : List Bool). a ∷ l) (apart n x y h)

-- the first terms of a dividend are divided by themselves, and the rest is added
divide_first : (x y : List Bool) → 32 ≤ length y → divide (length x) (x ++ y) ≡ add (divide (length x) (x ++ zeros 32)) y
divide_first x y h =
    ap (divide (length x)) (sym (apart 32 x y h))
    ∙ linear (length x) (zeros (length x) ++ y) (x ++ zeros 32)
    (omega (arith, length-append (zeros (length x)) y, zeros-length (length x)))
    (omega (arith, length-append x (zeros 32), zeros-length 32))
    ∙ add_comm (divide (length x) (zeros (length x) ++ y)) (divide (length x) (x ++ zeros 32))
    ∙ ap (add (divide (length x) (x ++ zeros 32))) (divide-zeros (length x) y)

-- ---- bits of a number

pub bits-length : (n x : ℕ) → length (bits n x) ≡ n
unfolding bits
bits-length zero x = refl
bits-length (suc n) x = ap suc (bits-length n (x / 2))

bit_xor_lem : (a b : ℕ) → a < 2 → b < 2 → eqb (bit_xor a b) 1 ≡ plus (eqb a 1) (eqb b 1)
bit_xor_lem zero zero h l = refl
bit_xor_lem zero (suc zero) h l = refl
bit_xor_lem zero (suc (suc b)) h l = absurd (omega arith)
bit_xor_lem (suc zero) zero h l = refl
bit_xor_lem (suc zero) (suc zero) h l = refl
bit_xor_lem (suc zero) (suc (suc b)) h l = absurd (omega arith)
bit_xor_lem (suc (suc a)) b h l = absurd (omega arith)

pub bits_xor : (n a b : ℕ) → bits n (bit_xor a b) ≡ add (bits n a) (bits n b)
unfolding bits add
bits_xor zero a b = refl
bits_xor (suc n) a b =
    ap₂ ◌∷◌ (ap (λ (x : ℕ). eqb x 1) (xor_mod a b 1) ∙ bit_xor_lem (a % 2) (b % 2) (omega arith) (omega arith))
    (ap (bits n) (xor_shr a b 1) ∙ bits_xor n (a / 2) (b / 2))

pub bits_zero : (n : ℕ) → bits n 0 ≡ zeros n
unfolding bits zeros
bits_zero zero = refl
bits_zero (suc n) = ap (λ (l : List Bool). false ∷ l) (bits_zero n)

pub bits_split : (n m x : ℕ) → bits (n + m) x ≡ bits m x ++ bits n (x / 2 ^ m)
unfolding bits
bits_split n zero x = ap₂ bits (add-zero n) (omega arith)
bits_split n (suc m) x =
    rw (add-suc n m)
    (ap (λ (l : List Bool). eqb (x % 2) 1 ∷ l)
    (bits_split n m (x / 2) ∙ ap (λ (y : ℕ). bits m (x / 2) ++ bits n y) (shr-shr x 1 m ∙ ap (λ (k : ℕ). x / 2 ^ k) (omega arith))))

-- the low bits are those of the remainder
pub bits_low : (m x : ℕ) → bits m (x % 2 ^ m) ≡ bits m x
unfolding bits
bits_low zero x = refl
bits_low (suc m) x =
    let e : suc m ≡ m + 1 = omega arith in
    rw e
    (ap₂ (λ (a b : ℕ). eqb a 1 ∷ bits m b) (mod-mod-pow x m 1) (field x m 1) ∙ ap (λ (l : List Bool). eqb (x % 2) 1 ∷ l) (bits_low m (x / 2)))

bit_not : (u : ℕ) → u < 2 → cond (not (eqb u 1)) 1 0 + u ≡ 1
bit_not zero h = refl
bit_not (suc zero) h = refl
bit_not (suc (suc u)) h = absurd (omega arith)

-- the complement of a number's n bits
pub number-not : (n x : ℕ) → x < 2 ^ n → number (map not (bits n x)) + x + 1 ≡ 2 ^ n
unfolding bits number
number-not zero x h = omega arith
number-not (suc n) x h =
    let p : 2 ^ suc n ≡ 2 ^ n * 2 = pow-suc 2 n in
    omega (arith, bit_not (x % 2) (omega arith), number-not n (x / 2) (omega arith))

-- ---- the register: 32 bits that stand under the first terms of what is left of the dividend

-- the table is asked at the low half octet
pub half_low : (k x : ℕ) → half k (x % 16) ≡ half k x
unfolding half
half_low k x = ap (λ (l : List Bool). remainder (l ++ zeros (4 * k + 32))) (bits_low 4 x)

-- the register, shifted by n
shifted : (j n c t : ℕ) → j + n ≡ 32 → c < 2 ^ 32 → bits 32 (bit_xor t (c / 2 ^ n)) ≡ add (bits 32 t) (bits j (c / 2 ^ n))
shifted j n c t e h =
    let y : ℕ = c / 2 ^ n in
    let w : n + j ≡ 32 = omega arith in
    let z : y / 2 ^ j ≡ 0 = shr-shr c n j ∙ ap (λ (k : ℕ). c / 2 ^ k) w ∙ div-eq_of_lt h in
    bits_xor 32 t y
    ∙ ap (add (bits 32 t)) (ap (λ (k : ℕ). bits k y) (sym w) ∙ bits_split n j y ∙ ap (λ (x : ℕ). bits j y ++ bits n x) z ∙ ap (λ (l : List Bool). bits j y ++ l) (bits_zero n))
    ∙ add_comm (bits 32 t) (bits j y ++ zeros n)
    ∙ add_tail (bits 32 t) (bits j y) n (omega (arith, bits-length 32 t, bits-length j y))
    ∙ add_comm (bits j y) (bits 32 t)

-- bits of the message at once: x is these plus the register above them, s what is left of the register, and t the remainder for x
taken_bits : (x s o m : List Bool) (c t : ℕ) → length x ≡ length o → length s ≤ 32 → add (bits 32 c) ((o ++ m) ++ zeros 32) ≡ x ++ add s (m ++ zeros 32)
    → bits 32 t ≡ remainder (x ++ zeros 32) → left c (o ++ m) ≡ divide (length m) (add (add (bits 32 t) s) (m ++ zeros 32))
unfolding left remainder
taken_bits x s o m c t n h first e =
    let y : List Bool = add s (m ++ zeros 32) in
    let k : length (o ++ m) ≡ length m + length x = omega (arith, length-append o m) in
    let z : length (m ++ zeros 32) ≡ length m + 32 = length-append m (zeros 32) ∙ ap (λ (i : ℕ). length m + i) (zeros-length 32) in
    let l : length y ≡ length (m ++ zeros 32) = add-length s (m ++ zeros 32) (omega arith) in
    let d : length (x ++ zeros 32) - 32 ≡ length x = omega (arith, length-append x (zeros 32), zeros-length 32) in
    ap₂ divide k first
    ∙ divide_more (length m) (length x) (x ++ y)
    ∙ ap (divide (length m))
    (divide_first x y (omega arith)
    ∙ ap (λ (l : List Bool). add l y) (ap (λ (i : ℕ). divide i (x ++ zeros 32)) (sym d) ∙ sym e)
    ∙ sym (add_assoc (bits 32 t) s (m ++ zeros 32)))

-- n bits at once, at most 32: the remainder for the register's low n bits plus these, and the register shifted by n
pub taken : (j n c o t : ℕ) (m : List Bool) → j + n ≡ 32 → c < 2 ^ 32 → bits 32 t ≡ remainder (bits n (bit_xor c o) ++ zeros 32)
    → left c (bits n o ++ m) ≡ left (bit_xor t (c / 2 ^ n)) m
unfolding left
taken j n c o t m w h e =
    let s : List Bool = bits j (c / 2 ^ n) in
    let first : add (bits 32 c) ((bits n o ++ m) ++ zeros 32) ≡ bits n (bit_xor c o) ++ add s (m ++ zeros 32) =
    ap₂ add (ap (λ (i : ℕ). bits i c) (sym w) ∙ bits_split j n c) (append_assoc (bits n o) m (zeros 32))
    ∙ add-append (bits n c) (bits n o) s (m ++ zeros 32) (bits-length n c ∙ sym (bits-length n o))
    ∙ ap (λ (l : List Bool). l ++ add s (m ++ zeros 32)) (sym (bits_xor n c o)) in
    taken_bits (bits n (bit_xor c o)) s (bits n o) m c t (bits-length n (bit_xor c o) ∙ sym (bits-length n o)) (omega (arith, bits-length j (c / 2 ^ n))) first e
    ∙ ap (λ (l : List Bool). divide (length m) (add l (m ++ zeros 32))) (sym (shifted j n c t w h))

-- ---- the loop over octets: its start, a turn, its end

ones_are : replicate 32 true ≡ bits 32 4294967295
unfolding bits
ones_are = refl

-- the sum of the two remainders is what is left from the register of 32 ones
pub start : (os : List ℕ) → crc32 os ≡ number (map not (left 4294967295 (message os)))
unfolding crc32 fcs remainder left
start os =
    let m : List Bool = message os in
    let ones : List Bool = bits 32 4294967295 in
    let a : length (ones ++ zeros (length m)) ≡ 32 + length m = length-append ones (zeros (length m)) ∙ ap₂ ◌+◌ (bits-length 32 4294967295) (zeros-length (length m)) in
    let b : length (m ++ zeros 32) ≡ length m + 32 = length-append m (zeros 32) ∙ ap (λ (k : ℕ). length m + k) (zeros-length 32) in
    let ea : length (ones ++ zeros (length m)) - 32 ≡ length m = omega arith in
    let eb : length (m ++ zeros 32) - 32 ≡ length m = omega arith in
    ap (λ (l : List Bool). number (map not l))
    (ap (λ (l : List Bool). add (divide (length (l ++ zeros (length m)) - 32) (l ++ zeros (length m))) (divide (length (m ++ zeros 32) - 32) (m ++ zeros 32))) ones_are
    ∙ ap₂ (λ (i j : ℕ). add (divide i (ones ++ zeros (length m))) (divide j (m ++ zeros 32))) ea eb
    ∙ sym (linear (length m) (ones ++ zeros (length m)) (m ++ zeros 32) (omega arith) (omega arith))
    ∙ ap (divide (length m)) (add_tail (m ++ zeros 32) ones (length m) (omega (arith, bits-length 32 4294967295))))

-- ---- 32 bits at once: the remainder for them plus the register is the sum of an entry for each half octet

-- the first bits' remainder with zeros for the others behind them, and the others' own
parted : (a b : List Bool) → remainder ((a ++ b) ++ zeros 32) ≡ add (remainder (a ++ zeros (length b + 32))) (remainder (b ++ zeros 32))
unfolding remainder
parted a b =
    let k : ℕ = length b in
    let p : List Bool = a ++ zeros (k + 32) in
    let q : List Bool = b ++ zeros 32 in
    let lp : length p ≡ length a + (k + 32) = length-append a (zeros (k + 32)) ∙ ap (λ (i : ℕ). length a + i) (zeros-length (k + 32)) in
    let lq : length q ≡ k + 32 = length-append b (zeros 32) ∙ ap (λ (i : ℕ). k + i) (zeros-length 32) in
    let np : k + length a ≡ length p - 32 = omega arith in
    let nq : k ≡ length q - 32 = omega arith in
    let n : length (a ++ q) - 32 ≡ k + length a = omega (arith, length-append a q) in
    ap (λ (l : List Bool). divide (length l - 32) l) (append_assoc a b (zeros 32))
    ∙ ap₂ divide n (sym (apart (k + 32) a q (omega arith)) ∙ add_comm (zeros (length a) ++ q) p)
    ∙ linear (k + length a) p (zeros (length a) ++ q) (omega arith) (omega (arith, length-append (zeros (length a)) q, zeros-length (length a)))
    ∙ ap₂ add (ap (λ (i : ℕ). divide i p) np)
    (divide_more k (length a) (zeros (length a) ++ q) ∙ ap (divide k) (divide-zeros (length a) q) ∙ ap (λ (i : ℕ). divide i q) nq)

-- the entries of the n + 1 low half octets, each for as many half octets of zero as there are behind it
unfoldable pub halves : ℕ → ℕ → List Bool
halves zero v = half 0 v
halves (suc n) v = add (half (suc n) v) (halves n (v / 16))

pub halves_are : (n v : ℕ) → remainder (bits (4 * suc n) v ++ zeros 32) ≡ halves n v
unfolding halves half
halves_are zero v = refl
halves_are (suc n) v =
    let w : 4 * suc (suc n) ≡ 4 * suc n + 4 = omega arith in
    let b : List Bool = bits (4 * suc n) (v / 16) in
    ap (λ (l : List Bool). remainder (l ++ zeros 32)) (ap (λ (k : ℕ). bits k v) w ∙ bits_split (4 * suc n) 4 v)
    ∙ parted (bits 4 v) b
    ∙ ap₂ add (ap (λ (k : ℕ). remainder (bits 4 v ++ zeros (k + 32))) (bits-length (4 * suc n) (v / 16))) (halves_are n (v / 16))

-- ---- steps of the register

pub takes_octet : (c o t : ℕ) → c < 2 ^ 32 → bits 32 t ≡ halves 1 (bit_xor c o) → Takes c (o ∷ []) (bit_xor t (c / 256))
unfolding Takes message
takes_octet c o t h e m =
    sym (ap (λ (l : List Bool). left c (l ++ m)) (append-nil (bits 8 o)) ∙ taken 24 8 c o t m refl h (e ∙ sym (halves_are 1 (bit_xor c o))))

taken_whole : (c w t : ℕ) (m : List Bool) → c < 2 ^ 32 → bits 32 t ≡ remainder (bits 32 (bit_xor c w) ++ zeros 32) → left c (bits 32 w ++ m) ≡ left t m
taken_whole c w t m h e =
    taken 0 32 c w t m refl h e ∙ ap (λ (k : ℕ). left k m) (ap (bit_xor t) (div-eq_of_lt h) ∙ xor_zero_r t)

pub takes_four : (c w t : ℕ) (os : List ℕ) → c < 2 ^ 32 → bits 32 w ≡ message os → bits 32 t ≡ remainder (bits 32 (bit_xor c w) ++ zeros 32) → Takes c os t
unfolding Takes
takes_four c w t os h o e m = sym (ap (λ (l : List Bool). left c (l ++ m)) (sym o) ∙ taken_whole c w t m h e)

pub takes_word : (c w t r : ℕ) → c < 2 ^ 32 → t < 2 ^ 32 → bits 32 t ≡ remainder (bits 32 (bit_xor c (w % 2 ^ 32)) ++ zeros 32)
    → bits 32 r ≡ remainder (bits 32 (bit_xor t (w / 2 ^ 32)) ++ zeros 32) → TakesWord c w r
unfolding TakesWord
takes_word c w t r h l e f m =
    let rest : List Bool = bits 32 (w / 2 ^ 32) ++ m in
    sym
    (ap (left c)
    (ap (λ (l : List Bool). l ++ m) (bits_split 32 32 w) ∙ append_assoc (bits 32 w) (bits 32 (w / 2 ^ 32)) m ∙ ap (λ (l : List Bool). l ++ rest) (sym (bits_low 32 w)))
    ∙ taken_whole c (w % 2 ^ 32) t rest h e
    ∙ taken_whole t (w / 2 ^ 32) r m l f)

-- two numbers, one behind the other
pub bits_join : (n m a b : ℕ) → a < 2 ^ m → bits (n + m) (a + b * 2 ^ m) ≡ bits m a ++ bits n b
bits_join n m a b h =
    let w : a + b * 2 ^ m ≡ b * 2 ^ m + a = omega arith in
    ap (bits (n + m)) w
    ∙ bits_split n m (b * 2 ^ m + a)
    ∙ ap₂ ◌++◌ (sym (bits_low m (b * 2 ^ m + a)) ∙ ap (bits m) (low b m h)) (ap (bits n) (high b m h))

pub message-length : (os : List ℕ) → length (message os) ≡ 8 * length os
unfolding message
message-length [] = refl
message-length (o ∷ os) = omega (arith, length-append (bits 8 o) (message os), bits-length 8 o, message-length os)

-- ---- what `Takes` gives

pub message-append : (a b : List ℕ) → message (a ++ b) ≡ message a ++ message b
unfolding message
message-append [] b = refl
message-append (o ∷ a) b = ap (λ (l : List Bool). bits 8 o ++ l) (message-append a b) ∙ sym (append_assoc (bits 8 o) (message a) (message b))

pub takes_append : (c r s : ℕ) (a b : List ℕ) → Takes c a r → Takes r b s → Takes c (a ++ b) s
unfolding Takes
takes_append c r s a b f g m =
    g m ∙ f (message b ++ m) ∙ ap (left c) (sym (append_assoc (message a) (message b) m) ∙ ap (λ (l : List Bool). l ++ m) (sym (message-append a b)))

-- from 32 ones, the check sequence is the register's complement
pub takes_crc : (os : List ℕ) (r : ℕ) → r < 2 ^ 32 → Takes 4294967295 os r → crc32 os ≡ 4294967295 - r
unfolding Takes
takes_crc os r h f =
    start os
    ∙ ap (λ (l : List Bool). number (map not (left 4294967295 l))) (sym (append-nil (message os)))
    ∙ ap (λ (l : List Bool). number (map not l)) (sym (f []))
    ∙ (unfold left divide in
    (rw (add_comm (bits 32 r) (zeros 32), add-zeros 32 (bits 32 r) (omega (arith, bits-length 32 r))) (omega (arith, number-not 32 r h))))

-- ---- four octets taken as zero

pub zeroed_at : (os : List ℕ) (at : ℕ) → at < length os → zeroed os at ≡ take at os ++ (replicate (min 4 (length os - at)) 0 ++ drop (at + min 4 (length os - at)) os)
unfolding zeroed
zeroed_at os at h =
    let n : length (take 4 (drop at os)) ≡ min 4 (length os - at) = length-take 4 (drop at os) ∙ ap (min 4) (length-drop at os) in
    let e : drop 4 (drop at os) ≡ drop (at + min 4 (length os - at)) os = drop-drop 4 at os ∙ rest (leb 4 (length os - at)) refl in
    ap₂ (λ (k : ℕ) (l : List ℕ). take at os ++ (replicate k 0 ++ l)) n e
  where
    rest : (b : Bool) → leb 4 (length os - at) ≡ b → drop (at + 4) os ≡ drop (at + min 4 (length os - at)) os
    rest true t = ap (λ (k : ℕ). drop (at + k) os) (sym (min-eq_left (leb-true 4 (length os - at) t)))
    rest false t =
        let l : length os - at < 4 = leb-false 4 (length os - at) t in
        let k : min 4 (length os - at) ≡ length os - at = min-eq_right (le_of_lt l) in
        drop_of_length-le os {i = at + 4} (omega arith) ∙ sym (drop_of_length-le os {i = at + min 4 (length os - at)} (omega arith))

pub zeroed_past : (os : List ℕ) (at : ℕ) → length os ≤ at → zeroed os at ≡ os
unfolding zeroed
zeroed_past os at h = rw (take_all at os h, drop_of_length-le os h) (append-nil os)
