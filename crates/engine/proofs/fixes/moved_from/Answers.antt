-- `engine::fixes::moved_from` meets its contract. The loop's invariant: what is left to look through has the same answer as the whole. Assumes
-- nothing.
use Rattle.std.proofs.Common.{◌-◌, sym, refl, ◌∙◌, arith}
use Rattle.engine.specs.Fixes.{moved_from}
use Rattle.predict.proofs.TrackLaws.{highest_none, highest_hit, highest_miss}
use Rattle.engine.proofs.fixes.moved_from.Goals as goal

pub loop-i-init : goal.loop-i-init
unfolding moved_from
loop-i-init c = refl

pub returns-then-is_move : goal.returns-then-is_move
returns-then-is_move c =
    let at_loop = c.loop-i in
    let hit = sym c.is_move.ensures ∙ c.if-is_move.true in
    sym (highest_hit _ (at_loop.i - 1) at_loop.i (omega (arith, c.loop-i-test.true)) hit) ∙ at_loop.invariant

pub loop-i-preserved : goal.loop-i-preserved
loop-i-preserved c =
    let at_loop = c.loop-i in
    let missed = sym c.is_move.ensures ∙ c.if-is_move.false in
    highest_miss _ (at_loop.i - 1) at_loop.i (omega (arith, c.loop-i-test.true)) missed ∙ at_loop.invariant

pub returns : goal.returns
returns c =
    let at_loop = c.loop-i in
    sym (highest_none _ at_loop.i (omega (arith, c.loop-i-test.false))) ∙ at_loop.invariant
