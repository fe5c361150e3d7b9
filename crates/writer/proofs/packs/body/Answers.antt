-- `writer::packs::body` meets its contract. The loop's invariant: the places passed are done, of whatever pack the bytes began as.
use Prim.Native.Nat.{◌*◌}
use mathlib.Core.List.{◌++◌}
use mathlib.Core.Bool.{true}
use mathlib.Core.Path.{◌≡◌, ◌∙◌, refl}
use borrow.Author.Rules.{rules}
use native.Mathlib.Omega.{arith}
use lib.ListN.{length-drop, length, drop}
use lib.Seq.{length_front}
use Rattle.writer.specs.PackSteps.{given}
use Rattle.writer.specs.PackWritten.{pack_good}
use Rattle.writer.proofs.LayLaws.{begun, laid_first, laid_behind, laid_source, laid_fits, laid_next, laid_all}
use Rattle.writer.proofs.packs.body.Goals as goal

pub loop-place-init : goal.loop-place-init
loop-place-init c =
    let place_tiles = c.place_tiles in
    let args = c.args in
    let bs = args.made.now.tiles.bytes.now in
    let count = args.made.now.grid.rows * args.made.now.grid.cols in
    let last = count * 8 in
    let dir = place_tiles.new.out in
    let began = dir ++ drop last args.out.now in
    let rest = drop last began in
    (refl, laid_first bs count rest began last refl)

pub lay-at-requires : goal.lay-at-requires
lay-at-requires c =
    let loop = c.loop-place in
    let place_tiles = c.place_tiles in
    let args = c.args in
    let pre = c.requires in
    let ns = args.made.now.tiles.lengths.now in
    let bs = args.made.now.tiles.bytes.now in
    let g = given args.made.now.grid bs ns in
    let good : pack_good g ≡ true = search rules in
    let count = args.made.now.grid.rows * args.made.now.grid.cols in
    let last = count * 8 in
    let dir = place_tiles.new.out in
    let began = dir ++ drop last args.out.now in
    let rest = drop last began in
    let begins = begun g bs count dir (drop last args.out.now) good refl refl place_tiles.ensures in
    let long : length loop.out ≡ length args.out.now = loop.invariant.0 ∙ length_front args.out.now dir last place_tiles.auto.out in
    record {
      entry_before = laid_behind bs count (omega (arith, pre.out_len, pre.out_bound)) rest began loop.place c.loop-place-test.true loop.out loop.at loop.invariant.1 g begins;
      tile_there = laid_source bs count (omega (arith, pre.out_len, pre.out_bound)) rest began loop.place c.loop-place-test.true loop.out loop.at loop.invariant.1 g begins;
      tile_fits = omega (arith, laid_fits bs count (omega (arith, pre.out_len, pre.out_bound)) rest began loop.place c.loop-place-test.true loop.out loop.at loop.invariant.1 g begins, good, pre.out_len, pre.out_bound);
      out_bound = omega (arith, pre.out_len, pre.out_bound);
    }

pub loop-place-preserved : goal.loop-place-preserved
loop-place-preserved c =
    let lay = c.lay-at in
    let loop_test = c.loop-place-test in
    let loop = c.loop-place in
    let place_tiles = c.place_tiles in
    let args = c.args in
    let pre = c.requires in
    let bs = args.made.now.tiles.bytes.now in
    let count = args.made.now.grid.rows * args.made.now.grid.cols in
    let last = count * 8 in
    let dir = place_tiles.new.out in
    let began = dir ++ drop last args.out.now in
    let rest = drop last began in
    (lay.auto.out ∙ loop.invariant.0, λ g b. laid_next bs count (omega (arith, pre.out_len, pre.out_bound)) rest began loop.place loop_test.true loop.out loop.at loop.invariant.1 g b lay.new.out lay.result lay.ensures.out_after lay.ensures.value)

pub returns : goal.returns
returns c =
    let place_tiles = c.place_tiles in
    let args = c.args in
    let pre = c.requires in
    let ns = args.made.now.tiles.lengths.now in
    let bs = args.made.now.tiles.bytes.now in
    let g = given args.made.now.grid bs ns in
    let good : pack_good g ≡ true = search rules in
    let count = args.made.now.grid.rows * args.made.now.grid.cols in
    let last = count * 8 in
    let dir = place_tiles.new.out in
    let began = dir ++ drop last args.out.now in
    let rest = drop last began in
    let begins = begun g bs count dir (drop last args.out.now) good refl refl place_tiles.ensures in
    let full : c.loop-place.place ≡ count = omega (arith, c.loop-place-test.false) in
    laid_all g good rest c.loop-place.out c.loop-place.at (omega (arith, length-drop last began, length_front args.out.now dir last place_tiles.auto.out, good, pre.out_len, pre.out_bound)) (rw full at (c.loop-place.invariant.1 g begins))
