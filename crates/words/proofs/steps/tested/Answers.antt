-- `steps::tested` meets its contract: each return by the causes tested before it.
use Rattle.std.proofs.Common.{sym, ◌∙◌}
use Rattle.words.proofs.StepLaws.{tested_is}
use Rattle.words.proofs.steps.tested.Goals as goal

pub returns-then-not-cache_ok : goal.returns-then-not-cache_ok
returns-then-not-cache_ok c = rw (tested_is c.args.ws.now c.args.size, sym c.cache_ok.ensures ∙ c.if-not-cache_ok.true)

pub returns : goal.returns
returns c = rw (tested_is c.args.ws.now c.args.size, sym c.cache_ok.ensures ∙ c.if-not-cache_ok.false, ← c.summary-s.ensures) c.passes.ensures
