-- `look::use_landed` meets its contract: each return by what the lookup landed on; without a run clock and ages are as they were (`uses_own`).
use Rattle.std.proofs.Common.{ap, ◌∙◌}
use Rattle.cache.specs.declared.Lookup.{Lookup}
use Rattle.std.specs.Prelude.{Ok}
use Rattle.words.proofs.UsesLaws.{uses_own}
use Rattle.words.proofs.look.use_landed.Goals as goal

pub returns-in-Ok-Missing : goal.returns-in-Ok-Missing
returns-in-Ok-Missing c = rw (c.in-Ok-Missing.is ∙ ap (λ (l : Lookup). Ok l) (rw c.in-Ok-Missing.is at c.in-Ok-Missing.field-0-is)) (uses_own c.args.ws.now c.requires)

pub returns-in-Ok-Absent : goal.returns-in-Ok-Absent
returns-in-Ok-Absent c = rw (c.in-Ok-Absent.is ∙ ap (λ (l : Lookup). Ok l) (rw c.in-Ok-Absent.is at c.in-Ok-Absent.field-0-is)) (uses_own c.args.ws.now c.requires)

pub returns-in-Err : goal.returns-in-Err
returns-in-Err c = rw c.in-Err.is (uses_own c.args.ws.now c.requires)
