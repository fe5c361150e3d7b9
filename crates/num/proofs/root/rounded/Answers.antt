-- `root::rounded` meets its contract: the number scaled to 49 or 50 digits, of which the last 24 are zeros, its whole root, and the last digit rounded.
use Rattle.std.proofs.Common.{◌≡◌, ℕ, ◌+◌, ◌*◌, ◌/◌, ◌%◌, ◌^◌, ◌<◌, ◌≤◌, ap, ◌∙◌, mod-eq_of_lt, arith}
use lib.Ieee.{binary32, of_bits}
use Rattle.num.specs.Root.{whole_root}
use Rattle.num.proofs.RootRounded.{digits_of, digits_are, wide_of, wide_is, top_of, top_is, wide_top, root_bounds, rounded_is}
use Rattle.num.proofs.root.rounded.Goals as goal

abbrev wide : ℕ → ℕ → ℕ
wide m s = wide_of m (digits_of m) (s + digits_of m)

abbrev top : ℕ → ℕ → ℕ
top m s = top_of m (digits_of m) (s + digits_of m)

module _ (m s : ℕ) (g : 0 < m) (h : m < 16777216) where
  -- the shift loses nothing
  whole : (top m s % 2 ^ 32 ≡ top m s) × ((2 ^ 24 ≤ top m s) × (top m s < 2 ^ 26))
  whole =
      let d : (digits_of m ≤ 24) × ((m < 2 ^ digits_of m) × (2 ^ digits_of m ≤ 2 * m + 1)) = digits_are m h in
      let t : (2 ^ 24 ≤ top m s) × (top m s < 2 ^ 26) = top_is m (digits_of m) (s + digits_of m) g d.0 d.1.0 d.1.1 in
      (mod-eq_of_lt (omega (arith, t.1)), t)

  -- and the root has 25 digits
  found : (r : ℕ) → r ≡ whole_root (top m s % 2 ^ 32 * 16777216) → (r ≡ whole_root (wide m s)) × (r < 33554432)
  found r e =
      let d : (digits_of m ≤ 24) × ((m < 2 ^ digits_of m) × (2 ^ digits_of m ≤ 2 * m + 1)) = digits_are m h in
      let w : (2 ^ 48 ≤ wide m s) × ((wide m s + 2 ^ 26 ≤ 2 ^ 50) × (wide m s % 2 ≡ 0)) = wide_is m (digits_of m) (s + digits_of m) g d.0 d.1.0 d.1.1 in
      let v : r ≡ whole_root (wide m s) = e ∙ ap (λ (x : ℕ). whole_root (x * 16777216)) whole.0 ∙ ap whole_root (wide_top m (digits_of m) (s + digits_of m) d.0) in
      (v, omega (arith, v, (root_bounds (wide m s) w.0 (omega (arith, w.1.0))).1))

pub overflow_sub-digits-2 : goal.overflow_sub-digits-2
overflow_sub-digits-2 c = omega (arith, (digits_are c.args.m c.requires.1.0).0)

pub root_of-root-requires : goal.root_of-root-requires
root_of-root-requires c =
    let w = whole c.args.m c.args.s c.requires.0 c.requires.1.0 in
    (omega (arith, w), omega (arith, w))

pub overflow_add-result-2 : goal.overflow_add-result-2
overflow_add-result-2 c =
    omega (arith, (found c.args.m c.args.s c.requires.0 c.requires.1.0 c.root_of-root.result c.root_of-root.ensures).1)

pub returns : goal.returns
returns c =
    let m : ℕ = c.args.m in
    let s : ℕ = c.args.s in
    let pre = c.requires in
    let d : (digits_of m ≤ 24) × ((m < 2 ^ digits_of m) × (2 ^ digits_of m ≤ 2 * m + 1)) = digits_are m pre.1.0 in
    let r : (c.root_of-root.result ≡ whole_root (wide m s)) × (c.root_of-root.result < 33554432) = found m s pre.0 pre.1.0 c.root_of-root.result c.root_of-root.ensures in (
      ap (λ (x : ℕ). of_bits binary32 (((s + digits_of m) / 2 + 51) * 8388608 + (x + 1) / 2)) r.0
          ∙ rounded_is m s (digits_of m) pre.0 d.0 d.1.0 d.1.1 pre.1.1,
      omega (arith, d.0, r.1),
    )
