-- An elevation every 20 m of road: `predict.rs`, `Sampler::push`. Each float operation is rounded once, in the Rust's order.
use Rattle.std.specs.Prelude.{ℕ, zero, suc, ◌+◌, ◌-◌, cond, List, ℤ, pos, ◌-ℤ◌, Float, length, set}
use Rattle.std.specs.Float.{binary32}
use Rattle.std.specs.Float.Ieee.{of_int, to_signed, add, sub, mul, div, neg, lt}
use Rattle.num.specs.Order.{clamp}
use Rattle.predict.specs.declared.Mark.{Mark}

abbrev pub whole : ℕ → Float
whole n = of_int binary32 (pos n)

-- SAMPLE_M is 20
abbrev pub sample_at : ℕ → Float
sample_at i = mul binary32 (whole i) (whole 20)

-- between the last road point and the next: along the straight line, or at the next where they are at one distance
abbrev pub between : Mark → Float → Float → ℤ → Float
between m at d z =
    let span = sub binary32 d m.distance in
    cond (lt (whole 0) span)
    (add binary32 (of_int binary32 m.z) (div binary32 (mul binary32 (of_int binary32 (z -ℤ m.z)) (sub binary32 at m.distance)) span))
    (of_int binary32 z)

-- held to 16 bits
unfoldable pub height_at : Mark → Float → Float → ℤ → ℤ
height_at m at d z = to_signed 15 (clamp (between m at d z) (neg (whole 32768)) (whole 32767))

pub record Pushed : Type 0 where
  pub mark : Mark
  pub heights : List ℤ

abbrev pub stopped : ℕ → Float → ℤ → List ℤ → Pushed
stopped len d z hs = record { mark = record { len = len; distance = d; z = z }; heights = hs }

-- the samples from number `len` on, of which `room` fit, up to the distance
unfoldable pub push_from : ℕ → Mark → Float → ℤ → ℕ → List ℤ → Pushed
push_from zero m d z len hs = stopped len d z hs
push_from (suc room) m d z len hs =
    cond (lt d (sample_at len)) (stopped len d z hs) (push_from room m d z (len + 1) (set hs len (height_at m (sample_at len) d z)))

abbrev pub pushed : Mark → List ℤ → Float → ℤ → Pushed
pushed m hs d z = push_from (length hs - m.len) m d z m.len hs

-- ---- the same in one pass over what a height is of its distance: this restates private code, and `SampleTurns` has that it is `push_from`

-- how many samples are written, and they
pub record Filled : Type 0 where
  pub len : ℕ
  pub heights : List ℤ

unfoldable pub filled : (Float → ℤ) → ℕ → Float → ℕ → List ℤ → Filled
filled f zero d len hs = record { len = len; heights = hs }
filled f (suc room) d len hs =
    cond (lt d (sample_at len)) (record { len = len; heights = hs }) (filled f room d (len + 1) (set hs len (f (sample_at len))))

abbrev pub held : Float → ℤ
held value = to_signed 15 (clamp value (neg (whole 32768)) (whole 32767))

-- on the straight line from a road point at `from`, of the height `base`, over `span` metres
abbrev pub slope : Float → Float → Float → Float → Float → ℤ
slope base rise from span at = held (add binary32 base (div binary32 (mul binary32 rise (sub binary32 at from)) span))
