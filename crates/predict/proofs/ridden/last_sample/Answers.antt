-- `predict::ridden::last_sample` meets its contract: each return by its tests, after the number of the last sample is settled.
use Prim.Native.Nat.{◌-◌}
use mathlib.Core.Path.{◌≡◌}
use native.Mathlib.Omega.{arith}
use borrow.Author.Tests.{lt-ltb, le-ltb}
use mir.Syntax.{w16, w32}
use mir.Facts.{to_z-of_z}
use Rattle.geo.proofs.Literals.{literal_1}
use Rattle.predict.proofs.Signed.{sf, got}
use Rattle.predict.specs.Ridden.{last_sample}
use Rattle.predict.proofs.ridden.last_sample.Goals as goal
use Rattle.predict.proofs.ridden.last_sample.Goals.{then-len-gt0, else-len-gt0}

pub returns-then-len-heights : goal.returns-then-len-heights
unfolding last_sample
returns-then-len-heights c =
    let last : c.if-len-gt0.before ≡ c.args.b.mark.len - 1 =
    elim c.if-len-gt0.branch [
      | then-len-gt0 w ↦ omega (arith, w.if-len-gt0.true, w.before-is)
      | else-len-gt0 w ↦ omega (arith, w.if-len-gt0.false, w.before-is)
    ] in
    let past = rw (literal_1, c.sample_at-sampled.ensures, last) at c.if-b-sampled.true in
    let room = lt-ltb _ _ c.if-len-heights.true in
    let z = to_z-of_z (sf w32 c.args.b.mark.z c.struct_told-1.given.1.1.0.1) in
    record {
      value = rw (past, room);
      heights_after = rw (got w16 c.i16_of_i32.type_inv, c.i16_of_i32.ensures, z, past, room);
    }

pub returns-else-len-heights : goal.returns-else-len-heights
unfolding last_sample
returns-else-len-heights c =
    let last : c.if-len-gt0.before ≡ c.args.b.mark.len - 1 =
    elim c.if-len-gt0.branch [
      | then-len-gt0 w ↦ omega (arith, w.if-len-gt0.true, w.before-is)
      | else-len-gt0 w ↦ omega (arith, w.if-len-gt0.false, w.before-is)
    ] in
    let past = rw (literal_1, c.sample_at-sampled.ensures, last) at c.if-b-sampled.true in
    let full = le-ltb _ _ c.if-len-heights.false in
    record {
      value = rw (c.sample_at-sampled.ensures, last, past, full);
      heights_after = rw (past, full);
    }

pub returns-else-b-sampled : goal.returns-else-b-sampled
unfolding last_sample
returns-else-b-sampled c =
    let last : c.if-len-gt0.before ≡ c.args.b.mark.len - 1 =
    elim c.if-len-gt0.branch [
      | then-len-gt0 w ↦ omega (arith, w.if-len-gt0.true, w.before-is)
      | else-len-gt0 w ↦ omega (arith, w.if-len-gt0.false, w.before-is)
    ] in
    let past = rw (literal_1, c.sample_at-sampled.ensures, last) at c.if-b-sampled.false in
    record {
      value = rw (c.sample_at-sampled.ensures, last, past);
      heights_after = rw past;
    }
