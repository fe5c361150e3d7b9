-- What the loops keep: a register of 32 bits, or five words of 64, that stand under the first terms of what is left of the dividend, and the table's rule.
-- These serve private functions alone; nothing public is stated by them.
use Rattle.std.specs.Prelude.{ℕ, ◌+◌, ◌*◌, ◌<◌, ◌≤◌, ◌≡◌, Bool, List, [], ◌∷◌, ◌++◌, length, get_or}
use Rattle.crc.specs.Fcs.{add, divide, remainder, zeros, bits, message}
use Rattle.crc.specs.declared.Pending.{Pending}

-- what is left of the division when the register c stands under the message m
unfoldable pub left : ℕ → List Bool → List Bool
left c m = divide (length m) (add (bits 32 c) (m ++ zeros 32))

-- what the table for k half octets of zero behind has at x: the remainder of x^(4k + 32) times the polynomial of x's 4 low bits
unfoldable pub half : ℕ → ℕ → List Bool
half k x = remainder (bits 4 x ++ zeros (4 * k + 32))

-- the rule of the tables for 0 to 7 half octets, one behind the other
unfoldable pub Rule : List ℕ → Type 0
Rule xs = (k x : ℕ) → k < 8 → x < 16 → bits 32 (get_or xs (k * 16 + x) 0) ≡ half k x

-- r is the register after the octets, c the one before them: whatever follows, the division leaves the same
unfoldable pub Takes : ℕ → List ℕ → ℕ → Type 0
Takes c os r = (m : List Bool) → left r m ≡ left c (message os ++ m)

-- the same of a word of 64 bits
unfoldable pub TakesWord : ℕ → ℕ → ℕ → Type 0
TakesWord c w r = (m : List Bool) → left r m ≡ left c (bits 64 w ++ m)

-- the bits of words of 64, each with its low bit first
unfoldable pub words : List ℕ → List Bool
words [] = []
words (x ∷ xs) = bits 64 x ++ words xs

-- what is left of the division when the words stand under the message m
unfoldable pub left_by : List ℕ → List Bool → List Bool
left_by ws m = divide (length m) (add (words ws) (m ++ zeros 32))

unfoldable pub left_of : Pending → List Bool → List Bool
left_of p m = left_by (p.first ∷ p.second ∷ p.third ∷ p.fourth ∷ p.fifth ∷ []) m

-- r is what is pending after the word x, p what was before it: whatever follows, if it is as long as five words
unfoldable pub Turns : Pending → ℕ → Pending → Type 0
Turns p x r = (m : List Bool) → 320 ≤ length m → left_of r m ≡ left_of p (bits 64 x ++ m)

-- r is what is pending after the octets, c the register before them
unfoldable pub Spreads : ℕ → List ℕ → Pending → Type 0
Spreads c os r = (m : List Bool) → 320 ≤ length m → left_of r m ≡ left c (message os ++ m)

-- r is what is pending after the octets, p what was before them
unfoldable pub SpreadsOn : Pending → List ℕ → Pending → Type 0
SpreadsOn p os r = (m : List Bool) → 320 ≤ length m → left_of r m ≡ left_of p (message os ++ m)

-- r is the register after the octets, p what is pending before them
unfoldable pub Ends : Pending → List ℕ → ℕ → Type 0
Ends p os r = (m : List Bool) → left r m ≡ left_of p (message os ++ m)
