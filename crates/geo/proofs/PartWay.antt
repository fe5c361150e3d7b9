-- A whole number part of the way from one to another, cut toward zero, as heights and places between two points are worked out: it lies no further from the
-- first than the second does, or than a bound of that which a float can hold (`part_way_bounds`). The part is what a projection gives (`project_part`) or a
-- clamp to 0 to 1 does (`clamp_part`).
use Prim.Native.Nat.{ℕ, ◌+◌, ◌*◌, ◌^◌, ◌≤◌, ◌<◌}
use native.Mathlib.Omega.{arith}
use lib.IntN.{ℤ, pos, negsuc, nat_abs, ◌+ℤ◌, ◌-ℤ◌}
use lib.Ieee.{Float, binary32, mul, of_int, to_signed}
use Rattle.num.proofs.PartLaws.{IsPart, part_cast}
use Rattle.pack.proofs.Signed.{up, dn, add, sub, abs}
use Rattle.tile.specs.declared.Node.{Node}
use Rattle.geo.specs.Points.{z_dm}

-- a, and the part t of the way to b
abbrev pub part_way_of : ℤ → ℤ → Float → ℤ
part_way_of a b t = a +ℤ to_signed 31 (mul binary32 (of_int binary32 (b -ℤ a)) t)

-- z is no more than n above w
abbrev pub Above : ℤ → ℤ → ℕ → Type 0
Above z w n = up z + dn w ≤ dn z + up w + n

small : (z : ℤ) (n : ℕ) → up z ≤ dn z + n → dn z ≤ up z + n → nat_abs z ≤ n
small (pos k) n p q = omega arith
small (negsuc k) n p q = omega arith

pub part_way_bounds : (a b : ℤ) (t : Float) (q i : ℕ) → q < 2 ^ 24 → 24 + i ≤ 128 → Above b a (q * 2 ^ i) → Above a b (q * 2 ^ i) → IsPart t
    → Above (part_way_of a b t) a (q * 2 ^ i) × Above a (part_way_of a b t) (q * 2 ^ i)
part_way_bounds a b t q i digits room over under part =
    let way : ℤ = to_signed 31 (mul binary32 (of_int binary32 (b -ℤ a)) t) in
    let near : nat_abs way ≤ q * 2 ^ i
    = part_cast (b -ℤ a) t q i digits room (small (b -ℤ a) (q * 2 ^ i) (omega (arith, sub b a)) (omega (arith, sub b a))) part in
    (omega (arith, add a way, abs way), omega (arith, add a way, abs way))

-- ---- heights of a tile's points: from -5,000 to 126,070

pub height_least : (n : Node) → dn (z_dm n) ≤ up (z_dm n) + 5000
height_least n = omega (arith, sub (pos (n.z * 2)) (pos 5000))

pub height_most : (n : Node) → n.z ≤ 65535 → up (z_dm n) ≤ dn (z_dm n) + 126070
height_most n h = omega (arith, sub (pos (n.z * 2)) (pos 5000))
