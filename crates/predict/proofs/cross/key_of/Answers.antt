-- `predict::cross::key_of` meets its contract: a step past 65535 leads outside every grid, added or not, so the grid's answer is the same.
use Prim.Native.Nat.{ℕ, ◌^◌, ◌<◌}
use mathlib.Core.Path.{◌≡◌, refl, sym, ◌∙◌}
use mathlib.Core.Bool.{Bool, true, false, ◌&&◌, cond}
use native.Mathlib.Omega.{arith}
use lib.IntN.{ℤ, pos, ◌+ℤ◌}
use lib.Signed.{mag, lt_z, le_z}
use mir.Syntax.{w64}
use mir.Val.{hbits, to_z, of_z}
use Rattle.std.specs.Prelude.{None}
use Rattle.pack.specs.Grid.{within, checked_of}
use Rattle.pack.specs.declared.Header.{Header}
use Rattle.pack.proofs.Signed.{add, lt-true, lt_no, got}
use Rattle.predict.proofs.cross.key_of.Goals as goal

-- what `stepped` gives, and a number as the code reads it back
abbrev step_of : ℕ → ℤ → ℤ
step_of at z = cond (lt_z (pos 65535) z) z (pos at +ℤ z)

abbrev back : ℤ → ℤ
back z = to_z w64 (of_z w64 z)

not_second : (p : Bool) {q : Bool} → q ≡ false → (p && q) ≡ false
not_second true e = e
not_second false e = refl

module _ (at n : ℕ) (z : ℤ) (h : n < 65536) (e : lt_z (pos 65535) z ≡ true) where
  step_out : within z n ≡ false
  step_out = not_second (le_z (pos 0) z) (lt_no z (pos n) (omega (arith, lt-true (pos 65535) z e)))

  sum_out : within (pos at +ℤ z) n ≡ false
  sum_out =
      not_second (le_z (pos 0) (pos at +ℤ z)) (lt_no (pos at +ℤ z) (pos n) (omega (arith, lt-true (pos 65535) z e, add (pos at) z)))

module _ (h : Header) where
  row_out : (row col : ℤ) → within row h.rows ≡ false → checked_of h row col ≡ None
  unfolding checked_of
  row_out row col e = rw e

  col_out : (row col : ℤ) → within col h.cols ≡ false → checked_of h row col ≡ None
  unfolding checked_of
  col_out row col e = rw (not_second (within row h.rows) e)

  module _ (row col : ℕ) (y x : ℤ) (rows : h.rows < 65536) (cols : h.cols < 65536) where
    stepped_same : checked_of h (step_of row y) (step_of col x) ≡ checked_of h (pos row +ℤ y) (pos col +ℤ x)
    stepped_same = go (lt_z (pos 65535) y) (lt_z (pos 65535) x) refl refl
      where
        go : (s t : Bool) → lt_z (pos 65535) y ≡ s → lt_z (pos 65535) x ≡ t
            → checked_of h (cond s y (pos row +ℤ y)) (cond t x (pos col +ℤ x)) ≡ checked_of h (pos row +ℤ y) (pos col +ℤ x)
        go false false p q = refl
        go true t p q =
            row_out y (cond t x (pos col +ℤ x)) (step_out row h.rows y rows p)
            ∙ sym (row_out (pos row +ℤ y) (pos col +ℤ x) (sum_out row h.rows y rows p))
        go false true p q =
            col_out (pos row +ℤ y) x (step_out col h.cols x cols q)
            ∙ sym (col_out (pos row +ℤ y) (pos col +ℤ x) (sum_out col h.cols x cols q))

    -- each number as the code reads it back
    key_is : (r s : ℤ) → mag y < 2 ^ hbits w64 → mag x < 2 ^ hbits w64 → mag r < 2 ^ hbits w64 → mag s < 2 ^ hbits w64
        → r ≡ step_of row (back y) → s ≡ step_of col (back x) → checked_of h (back r) (back s) ≡ checked_of h (pos row +ℤ y) (pos col +ℤ x)
    key_is r s fy fx fr fs er es = rw (got w64 fr, got w64 fs, er, es, got w64 fy, got w64 fx) stepped_same

pub returns : goal.returns
returns c =
    let a = c.args.a in
    let twin = c.args.twin in
    let steps = c.struct_told-1.given in
    let sizes = c.well_formed.0.1.1.0.1.1.1.1.1 in
    c.checked_of.ensures
    ∙ key_is a.header a.way.tile.row a.way.tile.col twin.row twin.col sizes.0.1 sizes.1.0.1
    c.stepped-row.result c.stepped-col.result steps.0.1 steps.1.0.1 c.stepped-row.type_inv c.stepped-col.type_inv
    c.stepped-row.ensures c.stepped-col.ensures
