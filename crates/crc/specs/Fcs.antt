-- CRC-32: the 32-bit frame check sequence of ITU-T V.42, clause 8.1.1.6.2, as that clause states it, by division of polynomials modulo 2.
-- Nothing here is a shift register or a table. `proofs/Euclid` shows that `remainder` is the remainder, and the only one.
use Rattle.std.specs.Prelude.{ℕ, zero, suc, ◌+◌, ◌-◌, ◌*◌, ◌/◌, ◌%◌, Bool, true, false, not, cond, List, [], ◌∷◌, ◌++◌, map, length, take, drop, replicate, eqb}

-- A polynomial modulo 2 is the list of its coefficients, the highest term first.

abbrev pub plus : Bool → Bool → Bool
plus true b = not b
plus false b = b

-- the sum of two polynomials that are written with their highest terms one above the other
unfoldable pub add : List Bool → List Bool → List Bool
add [] q = q
add (a ∷ p) [] = a ∷ p
add (a ∷ p) (b ∷ q) = plus a b ∷ add p q

-- V.42's generator polynomial x^32 + x^26 + x^23 + x^22 + x^16 + x^12 + x^11 + x^10 + x^8 + x^7 + x^5 + x^4 + x^2 + x + 1, without its highest term
unfoldable pub lower : List Bool
lower =
    false ∷ false ∷ false ∷ false ∷ false ∷ true ∷ false ∷ false  -- x^31 to x^24
    ∷ true ∷ true ∷ false ∷ false ∷ false ∷ false ∷ false ∷ true  -- x^23 to x^16
    ∷ false ∷ false ∷ false ∷ true ∷ true ∷ true ∷ false ∷ true  -- x^15 to x^8
    ∷ true ∷ false ∷ true ∷ true ∷ false ∷ true ∷ true ∷ true  -- x^7 to 1
    ∷ []

abbrev pub generator : List Bool
generator = true ∷ lower

abbrev pub tail : List Bool → List Bool
tail [] = []
tail (a ∷ p) = p

-- k steps of long division by the generator: where the highest coefficient is 1 the generator is taken away under it, and the term is gone
unfoldable pub divide : ℕ → List Bool → List Bool
divide zero p = p
divide (suc k) [] = []
divide (suc k) (false ∷ p) = divide k p
divide (suc k) (true ∷ p) = divide k (tail (add generator (true ∷ p)))

-- the remainder has 32 coefficients, x^31 to 1
unfoldable pub remainder : List Bool → List Bool
remainder p = divide (length p - 32) p

unfoldable pub zeros : ℕ → List Bool
zeros n = replicate n false

-- x^n times p
abbrev pub times_x : ℕ → List Bool → List Bool
times_x n p = p ++ zeros n

-- ---- octets

-- the n low bits of a number, the low bit first
unfoldable pub bits : ℕ → ℕ → List Bool
bits zero x = []
bits (suc n) x = eqb (x % 2) 1 ∷ bits n (x / 2)

-- the number whose bits these are, the low bit first
unfoldable pub number : List Bool → ℕ
number [] = 0
number (b ∷ bs) = number bs * 2 + cond b 1 0

-- the message as it is sent: each octet with its low bit first; the first bit is the coefficient of the highest term
unfoldable pub message : List ℕ → List Bool
message [] = []
message (o ∷ os) = bits 8 o ++ message os

-- V.42, 8.1.1.6.2: the ones' complement of the sum modulo 2 of (a) the remainder of x^k (x^31 + x^30 + .. + 1), k the number of bits of the message,
-- and (b) the remainder of x^32 times the message, both divided by the generator polynomial
unfoldable pub fcs : List Bool → List Bool
fcs m = map not (add (remainder (times_x (length m) (replicate 32 true))) (remainder (times_x 32 m)))

-- The highest term is sent first and an octet's low bit is sent first, so the sequence's four octets are a number with its low octet first.
unfoldable pub crc32 : List ℕ → ℕ
crc32 os = number (fcs (message os))

-- `tile.rs`, crc32_skipping: the same of the octets with four zeros at `at`. Where fewer than four stand from `at` on, those that do are taken as zero and none is added;
-- at or past the end nothing is changed.
unfoldable pub zeroed : List ℕ → ℕ → List ℕ
zeroed os at = take at os ++ (replicate (length (take 4 (drop at os))) 0 ++ drop 4 (drop at os))

unfoldable pub crc32_skipping : List ℕ → ℕ → ℕ
crc32_skipping os at = crc32 (zeroed os at)
