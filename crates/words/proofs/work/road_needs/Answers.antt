-- `work::road_needs` meets its contract: each return by whether another tile may be asked for; the number asked for stays small, since the limit is.
use Rattle.std.proofs.Common.{◌≡◌, length, sym, ◌∙◌, rules}
use Rattle.engine.specs.Work.{counted, no_road}
use Rattle.words.specs.Words.{engine_of}
use Rattle.words.proofs.UsesLaws.{used_engine, used_accepted}
use Rattle.words.proofs.WorkLaws.{ahead_in, count_in, due_in, road_published}
use Rattle.words.proofs.work.road_needs.Goals as goal

pub asks-requires : goal.asks-requires
asks-requires c =
    let size : length c.args.uses.used ≡ 96 = search rules in
    rw c.put_uses.ensures.out_after (used_accepted c.args.ws.now c.requires c.args.uses size)

pub returns-then-may_ask : goal.returns-then-may_ask
returns-then-may_ask c =
    let ws = c.args.ws.now in
    let size : length c.args.uses.used ≡ 96 = search rules in
    let may = rw (c.due-due.ensures, due_in ws, c.size.ensures, count_in ws) at (sym c.may_ask.ensures ∙ c.if-may_ask.true) in
    rw (c.asks.ensures, c.put_uses.ensures.out_after, used_engine ws c.requires c.args.uses size, c.asking-asked.ensures, c.due-due.ensures, due_in ws, may)

pub returns : goal.returns
returns c =
    let ws = c.args.ws.now in
    rw (c.road_publish.ensures, c.road_of-road.ensures, c.no_road-none.ensures, c.ahead-a.ensures, ahead_in ws, rw (c.due-due.ensures, due_in ws, c.size.ensures, count_in ws) at (sym c.may_ask.ensures ∙ c.if-may_ask.false), road_published (counted (engine_of ws).follower) (engine_of ws).follower.ahead.samples (engine_of ws).follower.ahead.behind c.args.fix c.args.found no_road)
