-- `predict::visits::visit` meets its contract: the place is cut to the array, so that every store lies in it, and none but the last changes how many
-- places are taken (`visit_stores`).
use Rattle.predict.proofs.VisitLaws.{visit_stores}
use Rattle.predict.proofs.visits.visit.Goals as goal

pub returns : goal.returns
returns c =
    let args = c.args in
    rw c.larger.ensures (visit_stores args.visited.now args.key args.edge)
