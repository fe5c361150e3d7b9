-- `work::road_dropped` meets its contract: the words that change are put.
use Rattle.words.proofs.WorkLaws.{dropped_words}
use Rattle.std.proofs.Common.{rules}
use Rattle.words.proofs.work.road_dropped.Goals as goal

pub returns : goal.returns
returns c = record {
  value = search rules;
  ws_after = rw (c.put_word-2.ensures.out_after, c.put_word.ensures.out_after) (dropped_words c.args.ws.now c.requires _ c.wrapping_add_u32-n.ensures.value);
}
