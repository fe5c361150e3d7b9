-- `kept::held` meets its contract. The loop's invariant: what was compared so far and what is left decide together.
use Rattle.words.proofs.HeldLaws.{held_next, held_stop}
use Rattle.std.proofs.Common.{sym, ◌∙◌, arith}
use Rattle.words.proofs.kept.held.Goals as goal

pub loop-i-preserved : goal.loop-i-preserved
loop-i-preserved c =
    let at = c.args.at in
    let piece = c.args.piece.now in
    let ws = c.args.ws.now in
    let i = c.loop-i.i in
    let ok = c.loop-i.ok in
    rw c.both-ok.ensures (held_next ok at piece ws i (omega arith) ∙ c.loop-i.invariant)

pub returns : goal.returns
returns c =
    sym (held_stop c.loop-i.ok c.args.at c.args.piece.now c.args.ws.now c.loop-i.i (omega arith))
    ∙ c.loop-i.invariant
