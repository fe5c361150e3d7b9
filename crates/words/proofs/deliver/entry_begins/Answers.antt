-- `deliver::entry_begins` meets its contract: each return by the tests before it.
use Rattle.std.proofs.Common.{sym, ap, Ok, ◌∙◌, eq-eqb, ne_eqb}
use Rattle.cache.proofs.StepLaws.{locate_read}
use Rattle.words.proofs.BeginLaws.{begins_unread, begins_short, begins_busy, begins_free, begins_there}
use Rattle.words.proofs.deliver.entry_begins.Goals as goal

pub returns-then-failure-ne0 : goal.returns-then-failure-ne0
returns-then-failure-ne0 c = begins_unread c.args.ws.now c.args.failure c.args.bytes.now (ne_eqb _ _ c.if-failure-ne0.true)

pub returns-then-bytes-ne8 : goal.returns-then-bytes-ne8
returns-then-bytes-ne8 c = begins_short c.args.ws.now c.args.failure c.args.bytes.now (eq-eqb _ _ c.if-failure-ne0.false) (ne_eqb _ _ c.if-bytes-ne8.true)

pub returns-then-ws-ne0 : goal.returns-then-ws-ne0
returns-then-ws-ne0 c = begins_busy c.args.ws.now c.args.failure c.args.bytes.now c.requires c.if-ws-ne0.true

pub returns-in-None : goal.returns-in-None
returns-in-None c = begins_free c.args.ws.now c.args.failure c.args.bytes.now (eq-eqb _ _ c.if-failure-ne0.false) (eq-eqb _ _ c.if-bytes-ne8.false) c.if-ws-ne0.false (sym c.in-None.is ∙ c.maybe_key-need.ensures)

pub returns-in-Ok-None : goal.returns-in-Ok-None
returns-in-Ok-None c = begins_there c.args.ws.now c.args.failure c.args.bytes.now (eq-eqb _ _ c.if-failure-ne0.false) (eq-eqb _ _ c.if-bytes-ne8.false) c.if-ws-ne0.false c.maybe_key-need.ensures c.in-Some.is c.header.ensures (sym (c.in-Ok-None.is ∙ ap Ok c.in-Ok-None.field-0-is) ∙ locate_read c.header.result c.args.bytes.now c.entry_bytes-entry.ensures c.locate_of.ensures)

pub returns-in-Err : goal.returns-in-Err
returns-in-Err c = begins_there c.args.ws.now c.args.failure c.args.bytes.now (eq-eqb _ _ c.if-failure-ne0.false) (eq-eqb _ _ c.if-bytes-ne8.false) c.if-ws-ne0.false c.maybe_key-need.ensures c.in-Some.is c.header.ensures (sym c.in-Err.is ∙ locate_read c.header.result c.args.bytes.now c.entry_bytes-entry.ensures c.locate_of.ensures)

pub returns-in-Ok-Some : goal.returns-in-Ok-Some
returns-in-Ok-Some c = c.begins_at.ensures ∙ begins_there c.args.ws.now c.args.failure c.args.bytes.now (eq-eqb _ _ c.if-failure-ne0.false) (eq-eqb _ _ c.if-bytes-ne8.false) c.if-ws-ne0.false c.maybe_key-need.ensures c.in-Some.is c.header.ensures (sym (c.in-Ok-Some.is ∙ ap Ok c.in-Ok-Some.field-0-is) ∙ locate_read c.header.result c.args.bytes.now c.entry_bytes-entry.ensures c.locate_of.ensures)
