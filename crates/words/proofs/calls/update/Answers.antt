-- `calls::update` meets its contract: each return by the tests before it, the point's numbers read back from their bits; of the cache a match changes clock and ages alone.
use Rattle.std.proofs.Common.{◌≡◌, length, sym, ap, ◌∙◌, w32}
use Rattle.pack.proofs.Signed.{got}
use Rattle.cache.specs.Uses.{uses_of}
use Rattle.matcher.specs.Gather.{updated, made_of, made_by}
use Rattle.matcher.specs.declared.Made.{Made}
use Rattle.matcher.proofs.GatherLaws.{searched_tiles, made_by_cache}
use Rattle.words.specs.Put.{uses_in}
use Rattle.words.specs.Words.{cache_of}
use Rattle.words.proofs.CallLaws.{left_kept, given_accepted, update_is, left_matched}
use Rattle.words.proofs.calls.update.Goals as goal

pub returns-then-not-given_ok : goal.returns-then-not-given_ok
returns-then-not-given_ok c =
    let args = c.args in
    let ws = args.ws.now in
    rw (update_is ws args.header args.arena.now args.m args.fix args.heading, sym c.given_ok.ensures ∙ c.if-not-given_ok.true) (record {
      answer_value = c.refused.ensures.answer_value;
      matcher_value = c.refused.ensures.matcher_value;
      ws_after = sym (left_kept ws);
    })

pub returns-then-not-matcher_ok : goal.returns-then-not-matcher_ok
returns-then-not-matcher_ok c =
    let args = c.args in
    let ws = args.ws.now in
    rw (update_is ws args.header args.arena.now args.m args.fix args.heading, sym c.given_ok.ensures ∙ c.if-not-given_ok.false, sym c.matcher_ok.ensures ∙ c.if-not-matcher_ok.true) (record {
      answer_value = c.refused-then-not-matcher_ok.ensures.answer_value;
      matcher_value = c.refused-then-not-matcher_ok.ensures.matcher_value;
      ws_after = sym (left_kept ws);
    })

pub returns-then-not-is_point : goal.returns-then-not-is_point
returns-then-not-is_point c =
    let args = c.args in
    let ws = args.ws.now in
    let point = rw (got w32 c.struct_told-1.given.0.1, got w32 c.struct_told-2-1.given.1.0.1) at c.is_point.ensures in
    rw (update_is ws args.header args.arena.now args.m args.fix args.heading, sym c.given_ok.ensures ∙ c.if-not-given_ok.false, sym c.matcher_ok.ensures ∙ c.if-not-matcher_ok.false, sym point ∙ c.if-not-is_point.true) (record {
      answer_value = c.refused-then-not-is_point.ensures.answer_value;
      matcher_value = c.refused-then-not-is_point.ensures.matcher_value;
      ws_after = sym (left_kept ws);
    })

pub returns-then-not-heading_ok : goal.returns-then-not-heading_ok
returns-then-not-heading_ok c =
    let args = c.args in
    let ws = args.ws.now in
    let point = rw (got w32 c.struct_told-1.given.0.1, got w32 c.struct_told-2-1.given.1.0.1) at c.is_point.ensures in
    rw (update_is ws args.header args.arena.now args.m args.fix args.heading, sym c.given_ok.ensures ∙ c.if-not-given_ok.false, sym c.matcher_ok.ensures ∙ c.if-not-matcher_ok.false, sym point ∙ c.if-not-is_point.false, sym c.heading_ok.ensures ∙ c.if-not-heading_ok.true) (record {
      answer_value = c.refused-then-not-heading_ok.ensures.answer_value;
      matcher_value = c.refused-then-not-heading_ok.ensures.matcher_value;
      ws_after = sym (left_kept ws);
    })

pub use_tiles-requires : goal.use_tiles-requires
use_tiles-requires c =
    let args = c.args in
    let given = sym c.given_ok.ensures ∙ c.if-not-given_ok.false in
    record {
      ws_value = given_accepted args.ws.now args.header (length args.arena.now) given;
      n_bound = rw c.searched-u.ensures (searched_tiles _ _ _ _ _ _ _);
    }

pub returns : goal.returns
returns c =
    let args = c.args in
    let ws = args.ws.now in
    let point = rw (got w32 c.struct_told-1.given.0.1, got w32 c.struct_told-2-1.given.1.0.1) at c.is_point.ensures in
    let given = sym c.given_ok.ensures ∙ c.if-not-given_ok.false in
    let made : made_by c.landings-at.result (uses_of (cache_of ws 15)) c.searched-u.result ≡ made_of (updated args.m (cache_of ws 15) args.arena.now args.header args.fix args.heading)
    = rw (c.searched-u.ensures, c.landings-at.ensures, c.near_of-near.ensures) (made_by_cache args.m (cache_of ws 15) args.arena.now args.header args.fix args.heading) in
    rw (
      update_is ws args.header args.arena.now args.m args.fix args.heading,
      given,
      sym c.matcher_ok.ensures ∙ c.if-not-matcher_ok.false,
      sym point ∙ c.if-not-is_point.false,
      sym c.heading_ok.ensures ∙ c.if-not-heading_ok.false,
    ) (record {
      answer_value = ap (λ (u : Made). u.answer) made;
      matcher_value = ap (λ (u : Made). u.matcher) made;
      ws_after = c.use_tiles.ensures ∙ ap (λ (u : Made). uses_in u.uses ws) made ∙ left_matched ws args.header args.arena.now args.m args.fix args.heading given;
    })
