-- Fields in a list of bytes: all numbers have their low byte first, and bytes without a field are zero.
use Rattle.std.specs.Prelude.{ℕ, zero, suc, ◌/◌, ◌%◌, List, [], ◌∷◌, replicate}
use Rattle.std.proofs.Math.Seq.{paste}

-- where a field stands, how many bytes it has, and its value
pub record Field : Type 0 where
  pub at : ℕ
  pub width : ℕ
  pub value : ℕ

-- a number in so many bytes, the lowest first
unfoldable pub little_endian : ℕ → ℕ → List ℕ
little_endian zero n = []
little_endian (suc width) n = n % 256 ∷ little_endian width (n / 256)

-- the bytes with one field put in, and with several, in their order
unfoldable pub put : Field → List ℕ → List ℕ
put f bs = paste bs f.at (little_endian f.width f.value) f.width

unfoldable pub puts : List Field → List ℕ → List ℕ
puts [] bs = bs
puts (f ∷ fs) bs = puts fs (put f bs)

-- so many bytes that hold these fields, and zero where there is none
unfoldable pub holding : List Field → ℕ → List ℕ
holding fs length = puts fs (replicate length 0)
