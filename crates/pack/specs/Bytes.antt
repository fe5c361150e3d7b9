-- Numbers in a list of bytes: document 01, "All numbers little-endian". A byte past the end counts as 0, so every reader is total.
use Rattle.std.specs.Prelude.{ℕ, ◌+◌, ◌-◌, ◌*◌, cond, List, ltb, ℤ, pos, negsuc, get_or}

abbrev pub byte_at : List ℕ → ℕ → ℕ
byte_at bs at = get_or bs at 0

unfoldable pub u16_at : List ℕ → ℕ → ℕ
u16_at bs at = byte_at bs at + byte_at bs (at + 1) * 256

unfoldable pub u32_at : List ℕ → ℕ → ℕ
u32_at bs at = u16_at bs at + u16_at bs (at + 2) * 0x1_0000

-- 32 bits read in two's complement
abbrev pub signed32 : ℕ → ℤ
signed32 n = cond (ltb n 0x8000_0000) (pos n) (negsuc (0xffff_ffff - n))

unfoldable pub i32_at : List ℕ → ℕ → ℤ
i32_at bs at = signed32 (u32_at bs at)

unfoldable pub u64_at : List ℕ → ℕ → ℕ
u64_at bs at = u32_at bs at + u32_at bs (at + 4) * 0x1_0000_0000
