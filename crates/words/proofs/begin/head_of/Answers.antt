-- `begin::head_of` meets its contract: each return by whether the page points at another.
use Rattle.words.proofs.BeginLaws.{head_own, head_other}
use Rattle.words.proofs.begin.head_of.Goals as goal

pub returns-then-part-eq0 : goal.returns-then-part-eq0
returns-then-part-eq0 c = head_own c.args.ws.now c.args.p c.requires c.if-part-eq0.true

pub returns : goal.returns
returns c = head_other c.args.ws.now c.args.p c.requires c.if-part-eq0.false
