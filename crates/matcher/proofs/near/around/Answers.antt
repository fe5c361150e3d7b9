-- `matcher::near::around` meets its contract. A u16 and one more or less fit 64 bits, so what `add` gets is the definition's.
use Prim.Native.Nat.{ℕ}
use mathlib.Core.Path.{◌≡◌, refl, ◌∙◌}
use mathlib.Core.Bool.{Bool, true, false, cond}
use native.Mathlib.Omega.{arith}
use lib.Dec.{leb}
use lib.IntN.{ℤ, pos, negsuc, nat_abs, ◌+ℤ◌, ◌-ℤ◌}
use lib.Signed.{lt_z}
use mir.Facts.{to_z-of_z, to_z_pos}
use mir.Syntax.{w16, w32, w64}
use mir.Val.{Fits, SFits, to_z, of_z}
use borrow.Author.Tests.{leb-true}
use Rattle.pack.proofs.Signed.{add, abs, fits, got}
use Rattle.matcher.specs.Near.{side, around}
use Rattle.matcher.proofs.near.around.Goals as goal

-- a neighbour is one more or less at most
side_small : (at from : ℤ) (size : ℕ) (reach : ℤ) → leb (nat_abs (side at from size reach)) 1 ≡ true
side_small at from size reach = by (lt_z (at -ℤ from) reach) (lt_z (pos size -ℤ (at -ℤ from)) reach)
  where
    by : (t u : Bool) → leb (nat_abs (cond t (negsuc 0) (cond u (pos 1) (pos 0)))) 1 ≡ true
    by true u = refl
    by false true = refl
    by false false = refl

-- a row or column and its neighbour, as the code reads both back
module _ {n : ℕ} (h : Fits w16 n) where
  n_is : to_z w64 n ≡ pos n
  n_is = to_z_pos w64 {n = n} (omega arith)

  module _ (z : ℤ) (e : leb (nat_abs z) 1 ≡ true) where
    z_is : to_z w64 (of_z w64 z) ≡ z
    z_is = to_z-of_z (fits w64 z (omega (arith, leb-true (nat_abs z) 1 e, abs z)))

    sum_fits : SFits w64 (to_z w64 n +ℤ to_z w64 (of_z w64 z))
    sum_fits = rw (n_is, z_is) (fits w64 (pos n +ℤ z) (omega (arith, leb-true (nat_abs z) 1 e, abs z, add (pos n) z)))

    sum_is : to_z w64 (of_z w64 (to_z w64 n +ℤ to_z w64 (of_z w64 z))) ≡ pos n +ℤ z
    sum_is = to_z-of_z sum_fits ∙ rw (n_is, z_is)

pub overflow_add-row : goal.overflow_add-row
overflow_add-row c =
    sum_fits c.struct_known-1.given.0 c.side-down.result (rw (c.side-down.ensures, side_small))

pub overflow_add-col : goal.overflow_add-col
overflow_add-col c =
    sum_fits c.struct_known-2-1.given.1.0 c.side-across.result (rw (c.side-across.ensures, side_small))

pub overflow_add-row-2 : goal.overflow_add-row-2
overflow_add-row-2 c =
    sum_fits c.struct_known-1.given.0 c.side-down.result (rw (c.side-down.ensures, side_small))

pub overflow_add-col-2 : goal.overflow_add-col-2
overflow_add-col-2 c =
    sum_fits c.struct_known-2-1.given.1.0 c.side-across.result (rw (c.side-across.ensures, side_small))

pub returns : goal.returns
unfolding around
returns c =
    rw (
      c.add.ensures,
      c.add-c.ensures,
      c.add-b.ensures,
      c.add-a.ensures,
      c.no_keys.ensures,
      sum_is c.struct_known-1.given.0 c.side-down.result (rw (c.side-down.ensures, side_small)),
      sum_is c.struct_known-2-1.given.1.0 c.side-across.result (rw (c.side-across.ensures, side_small)),
      n_is c.struct_known-1.given.0,
      n_is c.struct_known-2-1.given.1.0,
      c.side-down.ensures,
      c.side-across.ensures,
      got w32 c.struct_told-1.given.0.1,
      got w32 c.struct_told-2-1.given.0.1,
      got w32 c.struct_told-3-1.given.1.0.1,
      got w32 c.struct_told-4-1.given.1.0.1,
      c.corner_of-corner.ensures,
    )
