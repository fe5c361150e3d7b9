-- The cosine for `lon_scale_um`, and that function, as docs/ANGLES.md states their steps: `engine.rs`, L433 to L436, where the cosine alone is replaced.
-- Each step is one operation of IEEE 754, rounded once: the cosine's in double floats, those around it in single ones.
use Rattle.std.specs.Prelude.{ℕ, ◌%◌, cond, ℤ, pos, ◌==◌, from_bits, Float}
use Rattle.std.specs.Float.{binary32, binary64}
use Rattle.std.specs.Float.Ieee.{of_int, to_unsigned, add, sub, mul, neg}
use Rattle.num.specs.Convert.{narrow}
use Rattle.num.specs.Order.{fabsf}

-- ---- near 0: the polynomials of FreeBSD's k_cosf.c and k_sinf.c, which libm has too, in their order of operations

-- cos y is about 1 - c0 y^2 + c1 y^4 + (c3 y^2 - c2) y^6
unfoldable pub cos_near : Float → Float
cos_near y =
    let c0 = from_bits binary64 0x3fdffffffd0c5e81 in
    let c1 = from_bits binary64 0x3fa55553e1053a42 in
    let c2 = from_bits binary64 0x3f56c087e80f1e27 in
    let c3 = from_bits binary64 0x3ef99342e0ee5069 in
    let z = mul binary64 y y in
    let w = mul binary64 z z in
    let r = sub binary64 (mul binary64 z c3) c2 in
    add binary64
    (add binary64 (sub binary64 (from_bits binary64 0x3ff0000000000000) (mul binary64 z c0)) (mul binary64 w c1))
    (mul binary64 (mul binary64 w z) r)

-- sin y is about y + (s2 y^2 - s1) y^3 + (s4 y^2 - s3) y^7
unfoldable pub sin_near : Float → Float
sin_near y =
    let s1 = from_bits binary64 0x3fc5555554cbac77 in
    let s2 = from_bits binary64 0x3f811110896efbb2 in
    let s3 = from_bits binary64 0x3f2a00f9e2cae774 in
    let s4 = from_bits binary64 0x3ec6cd878c3b46a7 in
    let z = mul binary64 y y in
    let w = mul binary64 z z in
    let r = sub binary64 (mul binary64 z s4) s3 in
    let s = mul binary64 z y in
    add binary64 (add binary64 y (mul binary64 s (sub binary64 (mul binary64 z s2) s1))) (mul binary64 (mul binary64 s w) r)

-- ---- everywhere: by the nearest whole number of quarter turns

-- the quarter turns nearest to t radians, t not negative: t * 2 / π + 0.5, cut
abbrev pub turns : Float → ℕ
turns t = to_unsigned 64 (add binary64 (mul binary64 t (from_bits binary64 0x3fe45f306dc9c883)) (from_bits binary64 0x3fe0000000000000))

-- n quarter turns less t
abbrev pub beyond : ℕ → Float → Float
beyond n t = sub binary64 (mul binary64 (of_int binary64 (pos n)) (from_bits binary64 0x3ff921fb54442d18)) t

-- cos (n π / 2 - y), by n modulo 4, as a single float
abbrev pub folded : ℕ → Float → Float
folded n y =
    cond (n == 0) (narrow (cos_near y)) (cond (n == 1) (narrow (sin_near y)) (cond (n == 2) (neg (narrow (cos_near y))) (neg (narrow (sin_near y)))))

unfoldable pub cosine : Float → Float
cosine x = folded (turns (fabsf x) % 4) (beyond (turns (fabsf x)) (fabsf x))

-- (LAT_UM * cosf((lat as f32 * 1e-6).to_radians())) as u32, with LAT_UM 111,195 and to_radians a product with the single float π / 180
unfoldable pub lon_scale_um : ℤ → ℕ
lon_scale_um lat =
    to_unsigned 32
    (mul binary32 (from_bits binary32 0x47d92d80)
    (cosine (mul binary32 (mul binary32 (of_int binary32 lat) (from_bits binary32 0x358637bd)) (from_bits binary32 0x3c8efa35))))
