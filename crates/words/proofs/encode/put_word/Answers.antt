-- `encode::put_word` meets its contract: one word stored is one word put.
use Rattle.words.proofs.SetLaws.{set-put}
use Rattle.std.proofs.Common.{◌∙◌, arith, length-set}
use Rattle.words.proofs.encode.put_word.Goals as goal

pub returns : goal.returns
returns c = record {
  out_after = set-put c.args.out.now c.args.at c.args.n (omega (arith, c.requires));
  out_len = length-set c.args.out.now c.args.at c.args.n ∙ c.requires.1;
}
