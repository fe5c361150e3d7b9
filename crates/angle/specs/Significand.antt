-- What the private `significand` answers of a pattern.
use Rattle.std.specs.Prelude.{◌≡◌, ℕ, ◌*◌, ◌^◌, ◌<◌, ◌≤◌, from_bits}
use Rattle.std.specs.Float.{binary32}
use Rattle.angle.specs.Bearing.{magnitude}
use Rattle.angle.specs.declared.circle.Scaled.{Scaled}

-- b is the pattern of digits * 2 ^ shift smallest values, digits of 24 places; the leading one is set unless the shift is 0
pub record IsSignificand (b : ℕ) (s : Scaled) : Type 0 where
  pub value : magnitude (from_bits binary32 b) ≡ s.digits * 2 ^ s.shift
  pub below : s.digits < 2 ^ 24
  pub leading : 0 < s.shift → 2 ^ 23 ≤ s.digits
  pub scale : s.shift ≤ 253
