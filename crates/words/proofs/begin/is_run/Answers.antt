-- `begin::is_run` meets its contract: each return by whether the page points at another.
use Rattle.std.proofs.Common.{sym, ◌∙◌, le-ltb}
use Rattle.words.proofs.BeginLaws.{starts_by, starts_none}
use Rattle.words.proofs.begin.is_run.Goals as goal

pub returns-then-tag-lt4 : goal.returns-then-tag-lt4
returns-then-tag-lt4 c = sym (starts_by c.args.ws.now c.args.p c.requires c.if-tag-lt4.true)

pub returns-else-tag-lt4 : goal.returns-else-tag-lt4
returns-else-tag-lt4 c = le-ltb _ _ c.if-tag-lt4.false ∙ sym (starts_none c.args.ws.now c.args.p c.requires c.if-tag-lt4.false)
