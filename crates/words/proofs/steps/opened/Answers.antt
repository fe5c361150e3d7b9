-- `steps::opened` meets its contract: one piece.
use Rattle.words.proofs.StepLaws.{opened-put}
use Rattle.words.proofs.steps.opened.Goals as goal

pub returns : goal.returns
returns c = record {
  value = c.request-answer.ensures;
  ws_after = rw c.put_pending.ensures.out_after (opened-put c.args.ws.now c.requires c.args.pending);
}
