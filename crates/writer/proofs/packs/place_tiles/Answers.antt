-- `writer::packs::place_tiles` meets its contract. The loop's invariant: every entry has the start and length that its key finds among the tiles passed.
use Prim.Native.Nat.{ℕ, ◌-◌, ◌*◌}
use mathlib.Core.Path.{◌≡◌, sym, ap, ◌∙◌}
use mathlib.Core.Bool.{true}
use native.Mathlib.Omega.{arith}
use lib.ListN.{length, replicate}
use borrow.Author.Rules.{rules}
use Rattle.writer.specs.PackSteps.{source, long, given}
use Rattle.writer.specs.PackWritten.{pack_good, key_in}
use Rattle.writer.proofs.CutLaws.{start_back, start_within, start_end}
use Rattle.writer.proofs.EntryBytes.{entries_zero, length-entries}
use Rattle.writer.proofs.PlaceLaws.{turn_fits, turn_start, turn, source_end, long_end, sum_is}
use Rattle.writer.proofs.packs.place_tiles.Goals as goal

pub loop-i-init : goal.loop-i-init
loop-i-init c =
    let fill = c.fill in
    let args = c.args in
    let pre = c.requires in
    let ns = args.made.now.tiles.lengths.now in
    let bs = args.made.now.tiles.bytes.now in
    let g = given args.made.now.grid bs ns in
    let good : pack_good g ≡ true = search rules in
    let n = length ns in (search rules, (sym (start_end ns ∙ sum_is g good), fill.ensures.after (λ y e. e) ∙ (ap (λ (k : ℕ). replicate k 0) pre.out_len ∙ entries_zero (source g n) (long g n) (args.made.now.grid.rows * args.made.now.grid.cols) (λ q h. source_end g n q (search rules)) (λ q h. long_end g n q (search rules)))))

pub overflow_sub-at : goal.overflow_sub-at
overflow_sub-at c =
    let loop = c.loop-i in
    let args = c.args in
    let ns = args.made.now.tiles.lengths.now in
    omega (arith, loop.invariant, start_back ns (loop.i - 1) loop.i (omega arith) (omega arith))

pub tile-requires-clause-place : goal.tile-requires-clause-place
tile-requires-clause-place c =
    let loop = c.loop-i in
    omega (arith, loop.invariant, start_back c.args.made.now.tiles.lengths.now (loop.i - 1) loop.i (omega arith) (omega arith))

pub overflow_cast-at-in-loop-i : goal.overflow_cast-at-in-loop-i
overflow_cast-at-in-loop-i c =
    let loop = c.loop-i in
    let args = c.args in
    let pre = c.requires in
    let ns = args.made.now.tiles.lengths.now in
    let bs = args.made.now.tiles.bytes.now in
    let g = given args.made.now.grid bs ns in
    let good : pack_good g ≡ true = search rules in
    let i = loop.i - 1 in
    omega (arith, good, pre.tiles_fit, pre.out_len, loop.invariant, sum_is g good, start_back ns i loop.i (omega arith) (omega arith), start_within ns i (omega arith))

pub put-requires-clause-fits : goal.put-requires-clause-fits
put-requires-clause-fits c =
    let key_is = c.key_in-key.ensures ∙ ap key_in c.tile.ensures.value in
    let loop = c.loop-i in
    let args = c.args in
    let pre = c.requires in
    let ns = args.made.now.tiles.lengths.now in
    let bs = args.made.now.tiles.bytes.now in
    let g = given args.made.now.grid bs ns in
    let good : pack_good g ≡ true = search rules in
    omega (arith, turn_fits g good loop.i loop.end c.entry_of-entry.result c.key_in-key.result (omega arith) loop.invariant.0 loop.invariant.1.0 key_is c.entry_of-entry.ensures, ap length loop.invariant.1.1 ∙ length-entries _ _ _)

pub put-requires-in-loop-i-clause-fits : goal.put-requires-in-loop-i-clause-fits
put-requires-in-loop-i-clause-fits c =
    let put = c.put in
    let entry_of = c.entry_of-entry in
    let key_is = c.key_in-key.ensures ∙ ap key_in c.tile.ensures.value in
    let loop = c.loop-i in
    let args = c.args in
    let pre = c.requires in
    let ns = args.made.now.tiles.lengths.now in
    let bs = args.made.now.tiles.bytes.now in
    let g = given args.made.now.grid bs ns in
    let good : pack_good g ≡ true = search rules in
    omega (arith, turn_fits g good loop.i loop.end entry_of.result c.key_in-key.result (omega arith) loop.invariant.0 loop.invariant.1.0 key_is entry_of.ensures, ap length loop.invariant.1.1 ∙ length-entries _ _ _, put.auto.out)

pub loop-i-preserved : goal.loop-i-preserved
loop-i-preserved c =
    let put_long = c.put-in-loop-i in
    let put = c.put in
    let entry_of = c.entry_of-entry in
    let key_is = c.key_in-key.ensures ∙ ap key_in c.tile.ensures.value in
    let loop = c.loop-i in
    let args = c.args in
    let pre = c.requires in
    let ns = args.made.now.tiles.lengths.now in
    let bs = args.made.now.tiles.bytes.now in
    let g = given args.made.now.grid bs ns in
    let good : pack_good g ≡ true = search rules in
    (omega (arith, loop.invariant), (turn_start g good loop.i loop.end entry_of.result c.key_in-key.result (omega arith) loop.invariant.0 loop.invariant.1.0 key_is entry_of.ensures, put_long.ensures ∙ rw put.ensures (turn g good loop.i loop.end entry_of.result c.key_in-key.result (omega arith) loop.invariant.0 loop.invariant.1.0 key_is entry_of.ensures loop.out loop.invariant.1.1)))
