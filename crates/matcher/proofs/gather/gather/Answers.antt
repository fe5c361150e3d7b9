-- `matcher::gather::gather` meets its contract. The loop's invariant: what was gathered so far is the definition's over as many tiles, and no lookup
-- ended the match. A place without a key adds nothing; a lookup that ends the match leaves the rest of the tiles out (`gather_over`).
use mathlib.Core.Path.{refl, sym, ap, ◌∙◌}
use Rattle.matcher.specs.Gather.{ended}
use Rattle.matcher.proofs.GatherLaws.{gather_start, gather_turn, gather_none, gather_over}
use Rattle.matcher.proofs.gather.gather.Goals as goal

pub loop-tiles-init : goal.loop-tiles-init
loop-tiles-init c =
    let args = c.args in
    rw c.none_kept-kept.ensures (sym (gather_start args.at args.arena.now args.q args.near))

pub loop-tiles-preserved-in_default : goal.loop-tiles-preserved-in_default
loop-tiles-preserved-in_default c =
    let at_loop = c.loop-tiles in
    let args = c.args in
    gather_none args.at args.arena.now args.q args.near at_loop.tiles at_loop.kept at_loop.tiles c.in_default.is at_loop.invariant

pub loop-tiles-preserved-in-Ok-Missing : goal.loop-tiles-preserved-in-Ok-Missing
loop-tiles-preserved-in-Ok-Missing c =
    let at_loop = c.loop-tiles in
    let args = c.args in
    gather_turn args.at args.arena.now args.q args.near at_loop.tiles _ _ at_loop.kept at_loop.tiles
    c.in-Some.is (sym (rw c.in-Ok-Missing.field-0-is at c.in-Ok-Missing.is) ∙ c.checked.ensures) at_loop.invariant

pub returns-in-Ok-Absent : goal.returns-in-Ok-Absent
returns-in-Ok-Absent c =
    let at_loop = c.loop-tiles in
    let args = c.args in
    let turned = gather_turn args.at args.arena.now args.q args.near at_loop.tiles _ _ at_loop.kept at_loop.tiles
    c.in-Some.is (sym (rw c.in-Ok-Absent.field-0-is at c.in-Ok-Absent.is) ∙ c.checked.ensures) at_loop.invariant in
    ap (ended args.m args.q.heading)
    (gather_over args.at args.arena.now args.q args.near at_loop.tiles _ c.loop-tiles-test.true refl turned)

pub returns-in-Err : goal.returns-in-Err
returns-in-Err c =
    let at_loop = c.loop-tiles in
    let args = c.args in
    let turned = gather_turn args.at args.arena.now args.q args.near at_loop.tiles _ _ at_loop.kept at_loop.tiles
    c.in-Some.is (sym c.in-Err.is ∙ c.checked.ensures) at_loop.invariant in
    ap (ended args.m args.q.heading)
    (gather_over args.at args.arena.now args.q args.near at_loop.tiles _ c.loop-tiles-test.true refl turned)

pub loop-tiles-preserved : goal.loop-tiles-preserved
loop-tiles-preserved c =
    let at_loop = c.loop-tiles in
    let args = c.args in
    let turned = gather_turn args.at args.arena.now args.q args.near at_loop.tiles _ _ at_loop.kept at_loop.tiles
    c.in-Some.is (sym (rw c.in-Ok-Ready.field-0-is at c.in-Ok-Ready.is) ∙ c.checked.ensures) at_loop.invariant in
    rw (c.search-kept.ensures, c.run_bytes.ensures) turned
