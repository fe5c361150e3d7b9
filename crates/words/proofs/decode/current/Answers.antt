-- `decode::current` meets its contract.
use Rattle.words.specs.Words.{current_by}
use Rattle.std.proofs.Common.{add-zero, eq-eqb, ne_eqb}
use Rattle.words.proofs.decode.current.Goals as goal

pub returns-then-ws-at-eq1 : goal.returns-then-ws-at-eq1
unfolding current_by
returns-then-ws-at-eq1 c = rw (c.matched-found.ensures, add-zero c.args.at, eq-eqb _ _ c.if-ws-at-eq1.true)

pub returns : goal.returns
unfolding current_by
returns c = rw (add-zero c.args.at, ne_eqb _ _ c.if-ws-at-eq1.false)
