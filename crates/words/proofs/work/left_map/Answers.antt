-- `work::left_map` meets its contract: the words that change are put, with a road that is published or without one.
use Rattle.std.proofs.Common.{◌∙◌, rules, eq-eqb, ne_eqb}
use Rattle.words.proofs.WorkLaws.{is_published, gone_left, still_left}
use Rattle.words.proofs.work.left_map.Goals as goal
use Rattle.words.proofs.work.left_map.Goals.{then-ws-eq1, else-ws-eq1}

pub returns : goal.returns
returns c =
    let ws = c.args.ws.now in
    let counts = c.wrapping_add_u32-n.ensures.value in
    let fix = c.args.fix in
    record {
      value = search rules;
      ws_after = rw (c.put_word-2.ensures.out_after, c.put_word.ensures.out_after) (elim c.if-ws-eq1.branch [
        | then-ws-eq1 w ↦ gone_left ws c.requires _ counts fix (is_published ws ∙ eq-eqb _ _ w.if-ws-eq1.true) (w.ws-is ∙ w.road_gone.ensures)
        | else-ws-eq1 w ↦ still_left ws c.requires _ counts fix (is_published ws ∙ ne_eqb _ _ w.if-ws-eq1.false) w.ws-is
      ]);
    }
