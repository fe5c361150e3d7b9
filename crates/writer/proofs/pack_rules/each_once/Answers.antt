-- `writer::pack_rules::each_once` meets its contract. The loop's invariant: no key comes twice among the tiles passed, none of them ranks below
-- `least`, and each has set its mark.
use Rattle.std.proofs.Common.{rules, arith, ap, ◌≡◌, ◌+◌, ◌-◌, length, sym, ◌∙◌}
use lib.ListN.{length-set}
use Rattle.writer.specs.PackSteps.{rank, slot as slot_of}
use Rattle.writer.specs.PackWritten.{key_in, sum_of}
use Rattle.writer.proofs.CutLaws.{start_back, start_end, from_all}
use Rattle.writer.proofs.KeyLaws.{none_end, none_more, marked_end, marked_more, once_end, once_more, twice_here}
use Rattle.writer.proofs.pack_rules.each_once.Goals as goal

pub loop-i-init : goal.loop-i-init
loop-i-init c =
    let args = c.args in
    let whole : sum_of args.tiles.now.lengths.now ≡ length args.tiles.now.bytes.now = search rules in
    (search rules, (sym (start_end _ ∙ whole), (once_end _ _ _ (search rules), (none_end _ _ _ _ (search rules), (marked_end args.cols args.marks.now _ _ _ (search rules), c.requires)))))

pub overflow_sub-at : goal.overflow_sub-at
overflow_sub-at c =
    let loop = c.loop-i in
    omega (arith, loop.invariant, start_back c.args.tiles.now.lengths.now (loop.i - 1) loop.i (omega arith) (omega arith))

pub tile-requires-clause-place : goal.tile-requires-clause-place
tile-requires-clause-place c =
    let loop = c.loop-i in
    omega (arith, loop.invariant, start_back c.args.tiles.now.lengths.now (loop.i - 1) loop.i (omega arith) (omega arith))

pub returns-then-again : goal.returns-then-again
returns-then-again c =
    let loop = c.loop-i in
    let ns = c.args.tiles.now.lengths.now in
    let bs = c.args.tiles.now.bytes.now in
    let i = loop.i - 1 in
    let named = c.key_in-key.ensures ∙ ap key_in c.tile.ensures.value in
    let next : i + 1 ≡ loop.i = omega arith in
    sym (twice_here ns bs i loop.i (omega arith) (omega arith) (rw (named, next) at (sym c.again.ensures ∙ c.if-again.true)))

pub loop-i-preserved : goal.loop-i-preserved
loop-i-preserved c =
    let slot = c.slot-place in
    let loop = c.loop-i in
    let args = c.args in
    let ns = args.tiles.now.lengths.now in
    let bs = args.tiles.now.bytes.now in
    let i = loop.i - 1 in
    let named = c.key_in-key.ensures ∙ ap key_in c.tile.ensures.value in
    let next : i + 1 ≡ loop.i = omega arith in (
      omega (arith, loop.invariant.0),
      (
        omega (arith, loop.invariant.1.0, start_back ns i loop.i (omega arith) (omega arith)),
        (
          once_more ns bs i loop.i (omega arith) (omega arith) (rw (named, next) at (sym c.again.ensures ∙ c.if-again.false)) loop.invariant.1.1.0,
          (
            none_more loop.least _ ns bs i loop.i (omega arith) (omega arith) (omega (arith, c.min-least.ensures)) (omega (arith, c.min-least.ensures, c.rank.ensures, ap rank named)) loop.invariant.1.1.1.0,
            (
              marked_more args.cols loop.marks ns bs i loop.i slot.result (omega arith) (omega arith) (slot.ensures.value ∙ ap (slot_of args.cols) named) (omega (arith, slot.ensures.upper_bound, loop.invariant.1.1.1.1.1)) loop.invariant.1.1.1.1.0,
              length-set loop.marks slot.result 1 ∙ loop.invariant.1.1.1.1.1,
            ),
          ),
        ),
      ),
    )

pub returns : goal.returns
returns c = let none : c.loop-i.i ≡ 0 = omega arith in sym (rw (none, from_all) at c.loop-i.invariant.1.1.0)
