-- `encode::put` meets its contract. The loop's invariant: as many words as turns are copied.
use Rattle.words.proofs.PutLaws.{put-paste}
use lib.Seq.{paste-suc}
use Rattle.std.proofs.Common.{◌≡◌, length, ◌∙◌, add-one, arith, rules}
use Rattle.words.proofs.encode.put.Goals as goal

pub loop-i-preserved : goal.loop-i-preserved
loop-i-preserved c = (search rules, rw (c.loop-i.invariant.1, add-one) (paste-suc c.args.out.now c.args.at c.args.piece.now c.loop-i.i 0 (omega (arith, c.requires)) (omega arith)))

pub returns : goal.returns
returns c = let end : c.loop-i.i ≡ length c.args.piece.now = omega arith in
    record {
      out_after = rw (c.loop-i.invariant.1, end) (put-paste c.args.at c.args.piece.now c.args.out.now);
      out_len = c.loop-i.invariant.0 ∙ c.requires.1;
    }
