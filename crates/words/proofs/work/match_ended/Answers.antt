-- `work::match_ended` meets its contract: by how the match ended. Once clock and ages are put, the words are those of the engine with them (`tiles_engine`).
use Rattle.std.specs.Prelude.{Ok}
use Rattle.std.proofs.Common.{sym, ap, ◌∙◌}
use Rattle.cache.specs.Uses.{uses_of}
use Rattle.matcher.specs.declared.Outcome.{Outcome}
use Rattle.matcher.specs.Gather.{uses_after, made_by}
use Rattle.engine.specs.Work.{counted}
use Rattle.words.specs.Put.{uses_in}
use Rattle.words.specs.Words.{engine_of, cache_of}
use Rattle.words.proofs.UsesLaws.{tiles_accepted, tiles_engine}
use Rattle.words.proofs.WordsLaws.{words_engine}
use Rattle.words.proofs.WorkLaws.{count_in, due_in, asks_due, asks_told, match_made_lem}
use Rattle.words.proofs.work.match_ended.Goals as goal

pub match_made-requires : goal.match_made-requires
match_made-requires c =
    rw c.use_tiles.ensures (tiles_accepted c.args.ws.now c.requires.ws_value _ _)

pub asks-requires : goal.asks-requires
asks-requires c =
    rw c.use_tiles.ensures (tiles_accepted c.args.ws.now c.requires.ws_value _ _)

pub returns-in_err-outcome-clause-ws_after : goal.returns-in_err-outcome-clause-ws_after
returns-in_err-outcome-clause-ws_after c = rw c.in_err-outcome.was (sym (words_engine c.args.ws.now c.requires.ws_value))

pub returns-in-Found : goal.returns-in-Found
returns-in-Found c =
    let ws = c.args.ws.now in
    let u = c.args.u in
    let made = match_made_lem (engine_of ws) c.args.fix (made_by c.args.at (uses_of (engine_of ws).shared.cache) u) c.in_ok-outcome.was c.in-Found.is in
    record {
      value = rw made;
      ws_after = rw (c.match_made.ensures, c.use_tiles.ensures, tiles_engine ws c.requires.ws_value c.args.at u.tiles, made);
    }

pub returns-in-Need : goal.returns-in-Need
returns-in-Need c =
    let ws = c.args.ws.now in
    let at = c.args.at in
    let n = c.args.u.tiles in
    let us = uses_in (uses_after at (uses_of (cache_of ws 15)) n) ws in
    let told = c.in_ok-outcome.was ∙ ap (λ (outcome : Outcome). Ok outcome) c.in-Need.is in
    record {
      value = rw (c.match_tells.ensures, c.size-pages.ensures, c.due-due.ensures, c.use_tiles.ensures, due_in us, count_in us, tiles_engine ws c.requires.ws_value at n, told) (asks_told _);
      ws_after = rw (c.asks.ensures, c.asking_due-asked.ensures, c.size-pages.ensures, c.due-due.ensures, c.use_tiles.ensures, due_in us, count_in us, tiles_engine ws c.requires.ws_value at n, told, asks_due (counted (engine_of ws).follower) (engine_of ws).shared.cache.pages.count _);
    }
