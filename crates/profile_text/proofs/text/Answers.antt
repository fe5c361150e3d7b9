-- `text` meets its contract. The loop's invariant: behind the heading stand the lines of the first i samples, of 12 bytes each at most.
-- The measure is what is left of the samples.
use Prim.Native.Nat.{ℕ, ◌+◌, ◌*◌, ◌/◌, ◌%◌, ◌<◌, ◌≤◌}
use mathlib.Core.Path.{◌≡◌}
use mathlib.Core.List.{List, ◌++◌}
use native.Mathlib.Nat.{zero-add}
use native.Mathlib.Numerals.{add-one}
use native.Mathlib.Omega.{arith}
use lib.ListN.{length, take, get_or}
use lib.Seq.{take_all}
use lib.IntN.{ℤ, pos}
use lib.Signed.{mag}
use mir.Facts.{to_z-of_z}
use mir.Syntax.{w16}
use mir.Val.{to_z, of_z}
use borrow.Author.Tests.{le-leb, lt-leb, eq-eqb, ne_eqb}
use Rattle.num.specs.Cast.{signed16}
use Rattle.profile_text.specs.Codes.{codes}
use Rattle.profile_text.specs.Text.{profile, heading, bad_input, line, lines, lines_by, samples}
use Rattle.profile_text.proofs.Laws.{append_none, append_more, whole, length-line, lines_more, length-samples, sample_at}
use Rattle.profile_text.proofs.text.Goals.{then-input-gt1002-via-then-input-gt1002, then-input-gt1002-via-else-input-gt1002+then-input-ne0}
use Rattle.profile_text.proofs.text.Goals as goal

module _ (bs : List ℕ) where
  too_long : 1002 < length bs → profile bs ≡ bad_input
  unfolding profile
  too_long h = rw (lt-leb (length bs) 1002 h)

  odd : length bs ≤ 1002 → (length bs % 2 ≡ 0 → ⊥) → profile bs ≡ bad_input
  unfolding profile
  odd l h = rw (le-leb (length bs) 1002 l, ne_eqb (length bs % 2) 0 h)

  good : length bs ≤ 1002 → length bs % 2 ≡ 0 → profile bs ≡ heading ++ lines 0 (samples bs)
  unfolding profile
  good l h = rw (le-leb (length bs) 1002 l, eq-eqb (length bs % 2) 0 h)

  module _ (i : ℕ) where
    all : length bs / 2 ≤ i → take i (samples bs) ≡ samples bs
    all h = take_all i (samples bs) (omega (arith, length-samples bs))

    module _ (z : ℤ) (i< : i * 2 + 1 < length bs) (is : z ≡ signed16 (get_or bs (i * 2) 0 + get_or bs (i * 2 + 1) 0 * 256)) (ok : mag z < 32768) where
      read : to_z w16 (of_z w16 z) ≡ z
      read = to_z-of_z {w = w16} (record { sfits = ok })

      one_more : lines 0 (take (i + 1) (samples bs)) ≡ lines 0 (take i (samples bs)) ++ line i (to_z w16 (of_z w16 z))
      one_more = rw (read, is, ← sample_at bs i i<, add-one, lines_more line 0 i (samples bs) (pos 0) (omega (arith, length-samples bs)), zero-add)

      line_fits : i < 501 → length (line i (to_z w16 (of_z w16 z))) ≤ 12
      line_fits h = rw read (length-line i z h ok)

pub returns-then-input-gt1002 : goal.returns-then-input-gt1002
unfolding bad_input codes
returns-then-input-gt1002 c =
    let bad : profile c.args.input.now ≡ bad_input = elim c.then-input-gt1002.branch [
      | then-input-gt1002-via-then-input-gt1002 w ↦ too_long _ w.if-input-gt1002.true
      | then-input-gt1002-via-else-input-gt1002+then-input-ne0 w ↦ odd _ w.if-input-gt1002.false w.if-input-ne0.true
    ] in
    rw bad (let both = whole c.put_bytes.ensures in record { value = both.0; out_after = both.1 })

pub loop-i-init : goal.loop-i-init
unfolding lines_by
loop-i-init c = (omega arith, append_none _ _)

pub loop-i-preserved : goal.loop-i-preserved
loop-i-preserved c =
    let l = c.loop-i in
    let z = c.sample in
    let input = c.args.input.now in
    let i< : l.i * 2 + 1 < length input = omega arith in (
      omega (arith, c.put_line-at.ensures.ends, line_fits input l.i z.result i< z.ensures z.type_inv (omega arith)),
      rw (one_more input l.i z.result i< z.ensures z.type_inv) (append_more l.invariant.1 c.put_line-at.ensures),
    )

pub returns : goal.returns
unfolding heading codes
returns c =
    let short = c.if-input-gt1002.false in
    let even = c.if-input-ne0.false in
    rw (good _ short even) (let both = whole (append_more c.put_bytes-at.ensures (rw (all _ _ c.loop-i-test.false) at c.loop-i.invariant.1)) in record { value = both.0; out_after = both.1 })
