-- `writer::tiles::is_whole` meets its contract. The loop's invariant: `at` is where tile `i` starts, within the bytes.
use Prim.Native.Nat.{◌<◌, ℕ, ◌-◌}
use mathlib.Core.Path.{ap, ◌≡◌, sym, ◌∙◌}
use native.Mathlib.Omega.{arith}
use lib.Dec.{eqb}
use lib.ListN.{get_or, length}
use borrow.Author.Rules.{rules}
use borrow.Author.Tests.{ne_eqb}
use Rattle.writer.specs.PackSteps.{start_of}
use Rattle.writer.specs.PackWritten.{sum_of}
use Rattle.writer.proofs.CutLaws.{start_zero, start_more, start_within, start_end}
use Rattle.writer.proofs.tiles.is_whole.Goals as goal

pub loop-length-init : goal.loop-length-init
loop-length-init c = (search rules, sym (start_zero _))

pub returns-then-bytes-at : goal.returns-then-bytes-at
returns-then-bytes-at c =
    let loop = c.loop-length in
    let args = c.args in
    let ns = args.lengths.now in
    let bs = args.bytes.now in
    let short : length bs - loop.at < get_or ns loop.length-index 0 = c.if-bytes-at.true in sym (ne_eqb (sum_of ns) (length bs) (λ e. omega (arith, loop.invariant, start_within ns loop.length-index (omega arith))))

pub loop-length-preserved : goal.loop-length-preserved
loop-length-preserved c =
    let loop = c.loop-length in
    let args = c.args in
    let ns = args.lengths.now in
    (omega arith, omega (arith, start_more ns loop.length-index (omega arith)))

pub returns : goal.returns
returns c =
    let args = c.args in
    let ns = args.lengths.now in
    let bs = args.bytes.now in
    let full : c.loop-length.length-index ≡ length ns = omega arith in ap (λ (n : ℕ). eqb n (length bs)) (c.loop-length.invariant.1 ∙ ap (start_of ns) full ∙ start_end _)
