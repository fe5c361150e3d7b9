-- Casts of whole numbers that keep low bits. Floats to whole numbers are `lib.Ieee`'s `to_signed` and `to_unsigned`: toward zero, held to the range, 0 for not-a-number.
use Rattle.std.specs.Prelude.{ℕ, ◌-◌, ◌%◌, cond, ℤ, pos, negsuc, nat_lt}

-- z modulo 2 ^ 32, of a z that has 32 bits: Rust's `z as u32`
abbrev pub bits32 : ℤ → ℕ
bits32 (pos n) = n
bits32 (negsuc n) = 0xffff_ffff - n

-- z modulo 2 ^ 16: the number that its low 16 bits stand for
abbrev pub low_bits : ℤ → ℕ
low_bits (pos n) = n % 0x1_0000
low_bits (negsuc n) = 0xffff - n % 0x1_0000

-- 16 bits read in two's complement
abbrev pub signed16 : ℕ → ℤ
signed16 n = cond (nat_lt n 32768) (pos n) (negsuc (65535 - n))

-- Rust's `z as i16`, which keeps the low 16 bits
abbrev pub low16 : ℤ → ℤ
low16 z = signed16 (low_bits z)
