-- `look::place_in` meets its contract: a place's words are taken, with its key where there is one.
use Rattle.std.proofs.Common.{true, false, ◌∙◌, eq-eqb, ne_eqb}
use Rattle.words.proofs.LookLaws.{place_taken}
use Rattle.words.proofs.look.place_in.Goals as goal
use Rattle.words.proofs.look.place_in.Goals.{then-ws-at-eq1, else-ws-at-eq1}

pub returns : goal.returns
returns c =
    let args = c.args in
    elim c.if-ws-at-eq1.branch [
      | then-ws-at-eq1 w ↦ place_taken args.ws.now args.looks.now args.i true c.requires (eq-eqb _ _ w.if-ws-at-eq1.true) (w.row-is ∙ w.row_of-row.ensures) w.col-is
      | else-ws-at-eq1 w ↦ place_taken args.ws.now args.looks.now args.i false c.requires (ne_eqb _ _ w.if-ws-at-eq1.false) w.row-is w.col-is
    ]
