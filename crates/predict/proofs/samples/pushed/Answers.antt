-- `predict::samples::pushed` meets its contract: by whether the road point lies beyond the last one. A difference of two i32 fits 64 bits, and the
-- literal is read as a whole number.
use Prim.Native.Nat.{◌-◌}
use mathlib.Core.Path.{sym, ap, ◌∙◌}
use lib.ListN.{length}
use mir.Syntax.{w16, w32}
use mir.Facts.{to_z-of_z}
use Rattle.predict.specs.Samples.{Pushed}
use Rattle.predict.proofs.Signed.{sf, got, gap_is}
use Rattle.predict.proofs.SampleLiterals.{literal_0}
use Rattle.predict.proofs.SampleTurns.{push_slope, push_level}
use Rattle.predict.proofs.samples.pushed.Goals as goal

pub returns-then-span : goal.returns-then-span
returns-then-span c =
    let args = c.args in
    let hs = args.heights.now in
    let from = sf w32 args.m.z c.struct_told-1.given.1.1.0.1 in
    let written_value = rw (c.f32_of_i32-base.ensures, c.f32_of_i64-rise.ensures, gap_is c.ranges.z from, to_z-of_z from) at c.sloped-len.ensures.value in
    let written_heights_after = rw (c.f32_of_i32-base.ensures, c.f32_of_i64-rise.ensures, gap_is c.ranges.z from, to_z-of_z from) at c.sloped-len.ensures.heights_after in
    let e = push_slope args.m args.distance args.z (rw literal_0 at c.if-span.true) (length hs - args.m.len) args.m.len hs in
    record {
      value = rw (to_z-of_z c.ranges.z, written_value) (ap (λ (p : Pushed). p.mark) (sym e));
      heights_after = written_heights_after ∙ ap (λ (p : Pushed). p.heights) (sym e);
    }

pub returns : goal.returns
returns c =
    let args = c.args in
    let hs = args.heights.now in
    let written_value = rw (got w16 c.held.type_inv, c.held.ensures, c.f32_of_i32.ensures, to_z-of_z c.ranges.z) at c.level-len.ensures.value in
    let written_heights_after = rw (got w16 c.held.type_inv, c.held.ensures, c.f32_of_i32.ensures, to_z-of_z c.ranges.z) at c.level-len.ensures.heights_after in
    let e = push_level args.m args.distance args.z (rw literal_0 at c.if-span.false) (length hs - args.m.len) args.m.len hs in
    record {
      value = rw (to_z-of_z c.ranges.z, written_value) (ap (λ (p : Pushed). p.mark) (sym e));
      heights_after = written_heights_after ∙ ap (λ (p : Pushed). p.heights) (sym e);
    }
