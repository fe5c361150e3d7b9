-- `work::match_step` meets its contract: by the answers of its callees, with the place read back from its bits; a match from what its lookups land on leaves the cache as it was but for clock and ages.
use Rattle.std.proofs.Common.{◌≡◌, ap, ◌∙◌, w32}
use Rattle.pack.proofs.Signed.{got}
use Rattle.matcher.specs.declared.Made.{Made}
use Rattle.matcher.proofs.GatherLaws.{updated_uses, searched_tiles, made_by_cache}
use Rattle.cache.specs.Uses.{uses_of}
use Rattle.matcher.specs.Gather.{updated, made_of, made_by}
use Rattle.engine.specs.Fixes.{place_of}
use Rattle.engine.specs.Plans.{match_made}
use Rattle.engine.specs.Work.{match_step}
use Rattle.words.specs.Words.{engine_of, words}
use Rattle.words.proofs.WorkLaws.{cache_in, header_in, heading_in, matcher_in}
use Rattle.words.proofs.work.match_step.Goals as goal

pub match_ended-requires : goal.match_ended-requires
match_ended-requires c = record {
  ws_value = c.requires;
  tiles_bound = rw c.searched-u.ensures (searched_tiles _ _ _ _ _ _ _);
}

pub returns : goal.returns
unfolding match_step
returns c =
    let ws = c.args.ws.now in
    let e = engine_of ws in
    let arena = c.args.arena.now in
    let point = place_of c.args.fix in
    let made : made_by c.landings-at.result (uses_of e.shared.cache) c.searched-u.result ≡ made_of (updated e.follower.matcher e.shared.cache arena e.shared.header point e.follower.sight.heading)
    = rw (
      c.searched-u.ensures,
      c.landings-at.ensures,
      c.near_of-near.ensures,
      cache_in ws,
      got w32 {z = c.args.fix.lat} c.struct_told-1.given.0.1,
      got w32 {z = c.args.fix.lon} c.struct_told-1.given.1.0.1,
      c.matcher-m.ensures,
      c.header-header.ensures,
      c.heading-heading.ensures,
      matcher_in ws,
      header_in ws,
      heading_in ws,
    )
    (made_by_cache e.follower.matcher e.shared.cache arena e.shared.header point e.follower.sight.heading) in
    let kept = updated_uses e.follower.matcher e.shared.cache arena e.shared.header point e.follower.sight.heading in
    record {
      value = c.match_ended.ensures.value ∙ ap (λ (x : Made). (match_made e c.args.fix x).answer) made ∙ rw kept;
      ws_after = c.match_ended.ensures.ws_after ∙ ap (λ (x : Made). words (match_made e c.args.fix x).engine) made ∙ rw kept;
    }
