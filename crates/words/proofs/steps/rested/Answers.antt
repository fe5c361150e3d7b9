-- `steps::rested` meets its contract: one word.
use Rattle.words.proofs.StepLaws.{rested_put}
use Rattle.std.proofs.Common.{rules}
use Rattle.words.proofs.steps.rested.Goals as goal

pub returns : goal.returns
returns c = record {
  value = search rules;
  ws_after = rw (c.put_word.ensures.out_after, c.wrapping_add_u32-n.ensures.value) (rested_put c.args.ws.now c.requires);
}
