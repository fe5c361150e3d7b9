-- `calls::given_ok` meets its contract: each return by the causes tested before it; n pages are no more than the arena has where their bytes are no more than its bytes.
use Rattle.std.proofs.Common.{sym, ◌∙◌}
use Rattle.cache.proofs.RunLaws.{room}
use Rattle.words.specs.Words.{pages_of, cache_of}
use Rattle.words.proofs.CallLaws.{given_is}
use Rattle.words.proofs.calls.given_ok.Goals as goal

pub returns-then-not-cache_ok : goal.returns-then-not-cache_ok
returns-then-not-cache_ok c = rw (← given_is c.args.ws.now c.args.header c.args.size, sym c.cache_ok.ensures ∙ c.if-not-cache_ok.true)

pub returns-then-not-rules : goal.returns-then-not-rules
returns-then-not-rules c = rw (← given_is c.args.ws.now c.args.header c.args.size, sym c.cache_ok.ensures ∙ c.if-not-cache_ok.false, sym c.rules.ensures ∙ c.if-not-rules.true)

pub returns-then-not-entry_in : goal.returns-then-not-entry_in
unfolding cache_of
returns-then-not-entry_in c =
    rw (← given_is c.args.ws.now c.args.header c.args.size, sym c.cache_ok.ensures ∙ c.if-not-cache_ok.false, sym c.rules.ensures ∙ c.if-not-rules.false, rw c.pending-pending.ensures at (sym c.entry_in.ensures ∙ c.if-not-entry_in.true))

pub returns : goal.returns
unfolding cache_of pages_of
returns c =
    rw (← given_is c.args.ws.now c.args.header c.args.size, sym c.cache_ok.ensures ∙ c.if-not-cache_ok.false, sym c.rules.ensures ∙ c.if-not-rules.false, rw c.pending-pending.ensures at (sym c.entry_in.ensures ∙ c.if-not-entry_in.false), c.size.ensures, room)
