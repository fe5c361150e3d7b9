-- `deliver::refused` meets its contract: the fetch is put.
use Rattle.std.proofs.Common.{refl, ◌∙◌}
use Rattle.words.proofs.CameLaws.{open_put}
use Rattle.words.proofs.deliver.refused.Goals as goal

pub returns : goal.returns
returns c = record {
  value = refl;
  ws_after = c.put_pending.ensures.out_after ∙ open_put c.args.ws.now c.requires c.args.pending;
}
