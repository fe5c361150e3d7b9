-- `look::page_in` meets its contract: a page's words are taken, with its key where a tile is ready there.
use Rattle.std.proofs.Common.{true, false, ◌∙◌, eq-eqb, ne_eqb}
use Rattle.words.proofs.LookLaws.{page_taken}
use Rattle.words.proofs.look.page_in.Goals as goal
use Rattle.words.proofs.look.page_in.Goals.{then-ws-at-eq3, else-ws-at-eq3}

pub returns : goal.returns
returns c =
    let args = c.args in
    elim c.if-ws-at-eq3.branch [
      | then-ws-at-eq3 w ↦ page_taken args.ws.now args.looks.now args.i true c.requires (eq-eqb _ _ w.if-ws-at-eq3.true) (w.row-is ∙ w.row_of-row.ensures) w.col-is
      | else-ws-at-eq3 w ↦ page_taken args.ws.now args.looks.now args.i false c.requires (ne_eqb _ _ w.if-ws-at-eq3.false) w.row-is w.col-is
    ]
