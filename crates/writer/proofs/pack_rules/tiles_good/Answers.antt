-- `writer::pack_rules::tiles_good` meets its contract. The loop's invariant: `at` is where tile `i` starts, and the tiles from it on decide.
use Rattle.std.proofs.Common.{rules, tests, ◌≡◌, true, false, sym, ◌∙◌}
use Rattle.writer.specs.PackSteps.{given, numbered}
use Rattle.writer.specs.PackWritten.{tile_is_good}
use Rattle.writer.proofs.CutLaws.{start_zero, from_all, good_more, good_end}
use Rattle.writer.proofs.pack_rules.tiles_good.Goals as goal

pub loop-i-init : goal.loop-i-init
loop-i-init c = (sym (start_zero _), rw from_all)

pub returns-then-not-tile_is_good : goal.returns-then-not-tile_is_good
returns-then-not-tile_is_good c =
    let ns = c.args.tiles.now.lengths.now in
    let bs = c.args.tiles.now.bytes.now in
    let g = given c.args.grid bs ns in
    let bad : tile_is_good g (numbered ns bs c.loop-i.i) ≡ false = rw (← c.tile-tile.ensures.value) (search (rules, tests)) in
    rw (← c.loop-i.invariant.1, good_more g ns bs c.loop-i.i c.loop-i-test.true, bad)

pub loop-i-preserved : goal.loop-i-preserved
loop-i-preserved c =
    let ns = c.args.tiles.now.lengths.now in
    let bs = c.args.tiles.now.bytes.now in
    let g = given c.args.grid bs ns in
    let good : tile_is_good g (numbered ns bs c.loop-i.i) ≡ true = rw (← c.tile-tile.ensures.value) (search (rules, tests)) in
    (c.tile-tile.ensures.next, rw (← c.loop-i.invariant.1, good_more g ns bs c.loop-i.i c.loop-i-test.true, good))

pub returns : goal.returns
returns c =
    let ns = c.args.tiles.now.lengths.now in
    let bs = c.args.tiles.now.bytes.now in
    sym (good_end (given c.args.grid bs ns) ns bs c.loop-i.i (search rules)) ∙ c.loop-i.invariant.1
