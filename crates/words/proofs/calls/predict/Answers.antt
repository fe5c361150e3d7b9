-- `calls::predict` meets its contract: each return by the tests before it; clock and ages are put but for the late 12.
use Rattle.std.proofs.Common.{length, sym, refl, ◌∙◌}
use Rattle.words.proofs.CallLaws.{count_here, left_kept, given_accepted, predict_is, predict_looks, left_stale, left-road}
use Rattle.words.proofs.CountLaws.{accepted_long}
use Rattle.words.proofs.calls.predict.Goals as goal

pub returns-then-not-given_ok : goal.returns-then-not-given_ok
returns-then-not-given_ok c =
    let args = c.args in
    let ws = args.ws.now in
    rw (predict_is ws args.header args.arena.now args.start args.horizon_m args.samples.now args.behind.now, sym c.given_ok.ensures ∙ c.if-not-given_ok.true) (record {
      value = refl;
      ws_after = sym (left_kept ws);
      samples_after = refl;
      behind_after = refl;
    })

pub returns-then-not-in_grid : goal.returns-then-not-in_grid
returns-then-not-in_grid c =
    let args = c.args in
    let ws = args.ws.now in
    rw (predict_is ws args.header args.arena.now args.start args.horizon_m args.samples.now args.behind.now, sym c.given_ok.ensures ∙ c.if-not-given_ok.false, sym c.in_grid.ensures ∙ c.if-not-in_grid.true) (record {
      value = refl;
      ws_after = sym (left_kept ws);
      samples_after = refl;
      behind_after = refl;
    })

pub returns-then-is_stale : goal.returns-then-is_stale
returns-then-is_stale c =
    let args = c.args in
    let ws = args.ws.now in
    let given = sym c.given_ok.ensures ∙ c.if-not-given_ok.false in
    let grid = sym c.in_grid.ensures ∙ c.if-not-in_grid.false in
    let road_1 = rw (c.lookups-looks.ensures, c.size.ensures ∙ count_here ws) at c.from_looks-answer.ensures.value in
    let road_2 = rw (c.lookups-looks.ensures, c.size.ensures ∙ count_here ws) at c.from_looks-answer.ensures.looks_after in
    let road_3 = rw (c.lookups-looks.ensures, c.size.ensures ∙ count_here ws) at c.from_looks-answer.ensures.samples_after in
    let road_4 = rw (c.lookups-looks.ensures, c.size.ensures ∙ count_here ws) at c.from_looks-answer.ensures.behind_after in
    let stale = rw road_1 at (sym c.is_stale.ensures ∙ c.if-is_stale.true) in
    rw (predict_looks ws args.header args.arena.now args.start args.horizon_m args.samples.now args.behind.now given grid) (record {
      value = road_1;
      ws_after = left_stale ws args.header args.arena.now args.start args.horizon_m args.samples.now args.behind.now given grid stale;
      samples_after = road_3;
      behind_after = road_4;
    })

pub put_uses-requires : goal.put_uses-requires
put_uses-requires c =
    let args = c.args in
    accepted_long args.ws.now (given_accepted args.ws.now args.header (length args.arena.now) (sym c.given_ok.ensures ∙ c.if-not-given_ok.false))

pub returns : goal.returns
returns c =
    let args = c.args in
    let ws = args.ws.now in
    let given = sym c.given_ok.ensures ∙ c.if-not-given_ok.false in
    let grid = sym c.in_grid.ensures ∙ c.if-not-in_grid.false in
    let road_1 = rw (c.lookups-looks.ensures, c.size.ensures ∙ count_here ws) at c.from_looks-answer.ensures.value in
    let road_2 = rw (c.lookups-looks.ensures, c.size.ensures ∙ count_here ws) at c.from_looks-answer.ensures.looks_after in
    let road_3 = rw (c.lookups-looks.ensures, c.size.ensures ∙ count_here ws) at c.from_looks-answer.ensures.samples_after in
    let road_4 = rw (c.lookups-looks.ensures, c.size.ensures ∙ count_here ws) at c.from_looks-answer.ensures.behind_after in
    let fresh = rw road_1 at (sym c.is_stale.ensures ∙ c.if-is_stale.false) in
    let put = rw (c.uses_from-uses.ensures, road_2) at c.put_uses.ensures.out_after in
    rw (predict_looks ws args.header args.arena.now args.start args.horizon_m args.samples.now args.behind.now given grid) (record {
      value = road_1;
      ws_after = put ∙ left-road ws args.header args.arena.now args.start args.horizon_m args.samples.now args.behind.now given grid fresh;
      samples_after = road_3;
      behind_after = road_4;
    })
