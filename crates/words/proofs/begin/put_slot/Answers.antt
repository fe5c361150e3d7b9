use Rattle.std.proofs.Common.{◌∙◌}
use Rattle.words.proofs.PageSetLaws.{three_put, three_long}
use Rattle.words.proofs.begin.put_slot.Goals as goal

pub returns : goal.returns
returns c = record {
  ws_after = three_put c.args.ws.now c.args.p c.args.tag c.args.key c.args.len c.requires.0 c.requires.1;
  ws_len = three_long c.args.ws.now _ _ _ _ _ _ ∙ c.requires.1;
}
