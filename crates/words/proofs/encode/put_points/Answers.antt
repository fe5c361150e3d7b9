-- `encode::put_points` meets its contract. The loop's invariant: as many pieces as turns are put.
use Rattle.words.specs.Words.{points_words}
use Rattle.words.proofs.PutLaws.{put-spread}
use Rattle.num.proofs.FoldLaws.{up_start, up_turn}
use Rattle.std.proofs.Common.{◌≡◌, ℕ, sym, refl, arith}
use Rattle.words.proofs.encode.put_points.Goals as goal

pub loop-i-init : goal.loop-i-init
loop-i-init c = (c.requires, sym (up_start _ _))

pub loop-i-preserved : goal.loop-i-preserved
loop-i-preserved c = (c.put.ensures.out_len, rw (c.put.ensures.out_after, c.point-p.ensures, c.loop-i.invariant.1, up_turn))

pub returns : goal.returns
unfolding points_words
returns c = let end : c.loop-i.i ≡ 16 = omega arith in
    record {
      out_after = rw (c.loop-i.invariant.1, end) (put-spread _ 2 (λ (j : ℕ). refl) 544 _ (λ (j : ℕ). refl) 16 c.args.out.now (omega (arith, c.requires)));
      out_len = c.loop-i.invariant.0;
    }
